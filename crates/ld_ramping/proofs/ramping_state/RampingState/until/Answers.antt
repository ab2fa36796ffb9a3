use Rattle.std.proofs.Common.{◌≡◌, ◌∙◌, ◌<◌, ◌≤◌, None, Some, subst, sym, rules}
use Rattle.ld_machine.specs.Moment.{moment_after}
use Rattle.ld_machine.specs.Plan.{hard_moment}
use Rattle.ld_ramping.specs.Shows.{RampingView, Shows}
use Rattle.ld_ramping.specs.Standing.{interval_on}
use Rattle.ld_ramping.proofs.ShownLemmas.{until_hard, until_last, until_short}
use Rattle.ld_ramping.proofs.ramping_state.RampingState.until.Goals as goal

pub returns-in_default : goal.returns-in_default
returns-in_default c s shown =
    let v : RampingView = record { course = c.self.inside.course; ramp_grace = c.self.inside.ramp_grace; standing = c.self.inside.standing; seating = c.self.inside.seating } in
    let shows : Shows v s = subst (λ (w : RampingView). Shows w s) (sym c.self.view_is) shown in
    let none : interval_on c.self.inside.standing c.args.slot c.args.reading ≡ None = search rules in
    c.hard_moment-hard.ensures s shows.course ∙ sym (until_hard v s shows c.args.slot c.args.reading none)

pub returns-then-off-self : goal.returns-then-off-self
returns-then-off-self c s shown =
    let v : RampingView = record { course = c.self.inside.course; ramp_grace = c.self.inside.ramp_grace; standing = c.self.inside.standing; seating = c.self.inside.seating } in
    let shows : Shows v s = subst (λ (w : RampingView). Shows w s) (sym c.self.view_is) shown in
    let found : interval_on c.self.inside.standing c.args.slot c.args.reading ≡ Some c.in-Some.interval = search rules in
    let hard : c.hard_moment-hard.result ≡ hard_moment s.part = c.hard_moment-hard.ensures s shows.course in
    let early : moment_after c.self.inside.course.begin c.in-Some.interval.off < c.self.inside.course.end = search rules in
    let short = until_short v s shows c.args.slot c.args.reading c.in-Some.interval found early in
    search rules

pub returns-else-off-self : goal.returns-else-off-self
returns-else-off-self c s shown =
    let v : RampingView = record { course = c.self.inside.course; ramp_grace = c.self.inside.ramp_grace; standing = c.self.inside.standing; seating = c.self.inside.seating } in
    let shows : Shows v s = subst (λ (w : RampingView). Shows w s) (sym c.self.view_is) shown in
    let found : interval_on c.self.inside.standing c.args.slot c.args.reading ≡ Some c.in-Some.interval = search rules in
    let late : c.self.inside.course.end ≤ moment_after c.self.inside.course.begin c.in-Some.interval.off = search rules in
    c.hard_moment-hard.ensures s shows.course ∙ until_last v s shows c.args.slot c.args.reading c.in-Some.interval found late
