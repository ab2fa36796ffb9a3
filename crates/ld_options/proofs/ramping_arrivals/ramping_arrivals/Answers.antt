-- The first field that isn't read is refused; and where each is read, none is.
use Rattle.std.proofs.Common.{inl, inr}
use Rattle.ld_json.proofs.RulesLemmas.{then_accepts}
use Rattle.ld_options.proofs.RefusalLemmas.{greatest_accepts, handed_on, ok_accepts}
use Rattle.ld_options.proofs.ramping_arrivals.ramping_arrivals.Goals as goal

pub returns-in_err-unit-clause-refused : goal.returns-in_err-unit-clause-refused
returns-in_err-unit-clause-refused c =
    handed_on _ _ _ c.from_residual-in_err-unit.ensures
    (λ other. inr (ok_accepts _ c.in_ok-start_rate.start_rate c.in_ok-start_rate.ensures.answer.0, inl (c.in_err-unit.ensures.refused other)))

pub returns-in_err-stages-clause-refused : goal.returns-in_err-stages-clause-refused
returns-in_err-stages-clause-refused c =
    let users = greatest_accepts c.args.node.now c.in_ok-pre.pre c.in_ok-max.max c.in_ok-pre.ensures.answer.0 c.in_ok-max.ensures.answer.0 in
    handed_on _ _ _ c.from_residual-in_err-stages.ensures
    (λ other. inr (
      ok_accepts _ c.in_ok-start_rate.start_rate c.in_ok-start_rate.ensures.answer.0,
      inr (
        c.in_ok-unit.ensures.accepted,
        inr (ok_accepts _ c.in_ok-pre.pre c.in_ok-pre.ensures.answer.0, inr (users, c.in_err-stages.ensures.refused other)),
      ),
    ))

pub returns-clause-accepted : goal.returns-clause-accepted
returns-clause-accepted c =
    then_accepts _ _ (ok_accepts _ c.in_ok-start_rate.start_rate c.in_ok-start_rate.ensures.answer.0)
    (then_accepts _ _ c.in_ok-unit.ensures.accepted
    (then_accepts _ _ (ok_accepts _ c.in_ok-pre.pre c.in_ok-pre.ensures.answer.0)
    (then_accepts _ _ (greatest_accepts c.args.node.now c.in_ok-pre.pre c.in_ok-max.max c.in_ok-pre.ensures.answer.0 c.in_ok-max.ensures.answer.0)
    c.in_ok-stages.ensures.accepted)))
