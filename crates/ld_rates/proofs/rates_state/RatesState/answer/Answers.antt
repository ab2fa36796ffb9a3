use Rattle.std.proofs.Common.{rules}
use Rattle.ld_course.proofs.CourseLemmas.{ended_is, hard_moment_is}
use Rattle.ld_rates.proofs.rates_state.RatesState.answer.Goals as goal

pub returns-then-has_ended : goal.returns-then-has_ended
returns-then-has_ended c =
    let ended = ended_is c.self.inside.course c.args.reading c.has_ended.result c.has_ended.ensures in
    search rules

pub returns-in-Some : goal.returns-in-Some
returns-in-Some c =
    let ended = ended_is c.self.inside.course c.args.reading c.has_ended.result c.has_ended.ensures in
    let until = hard_moment_is c.self.inside.course c.hard_moment-until.result c.hard_moment-until.ensures in
    search rules

pub returns-then-slot-self : goal.returns-then-slot-self
returns-then-slot-self c =
    let ended = ended_is c.self.inside.course c.args.reading c.has_ended.result c.has_ended.ensures in
    let until = hard_moment_is c.self.inside.course c.hard_moment-until.result c.hard_moment-until.ensures in
    search rules

pub returns-else-slot-self : goal.returns-else-slot-self
returns-else-slot-self c =
    let ended = ended_is c.self.inside.course c.args.reading c.has_ended.result c.has_ended.ensures in
    search rules
