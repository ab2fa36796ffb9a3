use Rattle.std.proofs.Common.{◌∙◌, sym, rules}
use Rattle.ld_rates.proofs.ShownLemmas.{release_shown, take_shown, answer_shown, close_shown, nothing_shown}
use Rattle.ld_rates.proofs.rates_state.RatesState.next_act.Goals as goal

pub returns-in-Some-clause-first : goal.returns-in-Some-clause-first
returns-in-Some-clause-first c s shows n users free =
    release_shown c.args.self.now s shows n users c.args.reading c.args.prefer c.in-Some.user c.in-Some.ensures.some
    (λ slot. c.in-Some.ensures.may s slot shows)

pub returns-in-Some-to_take-clause-first : goal.returns-in-Some-to_take-clause-first
returns-in-Some-to_take-clause-first c s shows n users free =
    take_shown c.args.self.now s shows n users c.args.reading c.args.prefer c.in-Some-to_take.slot c.in-Some-to_take.ensures.some.1
    (c.in_default.ensures.none s n shows) (c.in-Some-to_take.ensures.may s shows) (free ∙ c.in-Some-to_take.ensures.some.0)

pub returns-in-Some-due_arrival-clause-first : goal.returns-in-Some-due_arrival-clause-first
returns-in-Some-due_arrival-clause-first c s shows n users free =
    answer_shown c.args.self.now s shows n users c.args.reading c.args.prefer (c.in-Some-due_arrival.item, c.in-Some-due_arrival.moment) c.chosen.result c.answer.result
    (c.in_default.ensures.none s n shows) (c.in_default-to_take.ensures.none s n users shows free) (c.in-Some-due_arrival.ensures.shown s shows) (search rules) c.answer.ensures

pub returns-then-may_close-clause-first : goal.returns-then-may_close-clause-first
returns-then-may_close-clause-first c s shows n users free =
    close_shown c.args.self.now s shows n users c.args.reading c.args.prefer (c.in_default.ensures.none s n shows)
    (c.in_default-to_take.ensures.none s n users shows free) (c.in_default-due_arrival.ensures.shown s shows) (sym (c.if-may_close.ensures s shows))

pub returns-else-may_close-clause-first : goal.returns-else-may_close-clause-first
returns-else-may_close-clause-first c s shows n users free =
    nothing_shown c.args.self.now s shows n users c.args.reading c.args.prefer (c.in_default.ensures.none s n shows)
    (c.in_default-to_take.ensures.none s n users shows free) (c.in_default-due_arrival.ensures.shown s shows) (sym (c.if-may_close.ensures s shows))
