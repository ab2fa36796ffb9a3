-- The first field that isn't read is refused; and where each is read, none is.
use Rattle.std.proofs.Common.{inl, inr}
use Rattle.ld_json.proofs.RulesLemmas.{then_accepts}
use Rattle.ld_options.proofs.RefusalLemmas.{greatest_accepts, handed_on, ok_accepts}
use Rattle.ld_options.proofs.constant_arrivals.constant_arrivals.Goals as goal

pub returns-in_err-unit-clause-refused : goal.returns-in_err-unit-clause-refused
returns-in_err-unit-clause-refused c =
    handed_on _ _ _ c.from_residual-in_err-unit.ensures
    (λ other. inr (ok_accepts _ c.in_ok-rate.rate c.in_ok-rate.ensures.answer.0, inl (c.in_err-unit.ensures.refused other)))

pub returns-in_err-duration-clause-refused : goal.returns-in_err-duration-clause-refused
returns-in_err-duration-clause-refused c =
    handed_on _ _ _ c.from_residual-in_err-duration.ensures
    (λ other. inr (ok_accepts _ c.in_ok-rate.rate c.in_ok-rate.ensures.answer.0, inr (c.in_ok-unit.ensures.accepted, inl (c.in_err-duration.ensures.refused other))))

pub returns-clause-accepted : goal.returns-clause-accepted
returns-clause-accepted c =
    then_accepts _ _ (ok_accepts _ c.in_ok-rate.rate c.in_ok-rate.ensures.answer.0)
    (then_accepts _ _ c.in_ok-unit.ensures.accepted
    (then_accepts _ _ c.in_ok-duration.ensures.accepted
    (then_accepts _ _ (ok_accepts _ c.in_ok-pre.pre c.in_ok-pre.ensures.answer.0)
    (greatest_accepts c.args.node.now c.in_ok-pre.pre c.in_ok-max.max c.in_ok-pre.ensures.answer.0 c.in_ok-max.ensures.answer.0))))
