-- The first field that isn't read is refused; and where each is read, none is.
use Rattle.std.proofs.Common.{inr}
use Rattle.ld_json.proofs.RulesLemmas.{then_accepts}
use Rattle.ld_options.proofs.RefusalLemmas.{each_accepts, handed_on, ok_accepts}
use Rattle.ld_options.proofs.iterations.iterations_per_user.Goals as goal

pub returns-in_err-max_duration-clause-refused : goal.returns-in_err-max_duration-clause-refused
returns-in_err-max_duration-clause-refused c =
    let users = c.in_ok-vus.ensures.answer.0 in
    let each = each_accepts c.args.node.now c.in_ok-vus.vus c.in_ok-iterations.iterations users c.in_ok-iterations.ensures.answer.0 in
    handed_on _ _ _ c.from_residual-in_err-max_duration.ensures
    (λ other. inr (ok_accepts _ c.in_ok-vus.vus users, inr (each, c.in_err-max_duration.ensures.refused other)))

pub returns-clause-accepted : goal.returns-clause-accepted
returns-clause-accepted c =
    let users = c.in_ok-vus.ensures.answer.0 in
    let each = each_accepts c.args.node.now c.in_ok-vus.vus c.in_ok-iterations.iterations users c.in_ok-iterations.ensures.answer.0 in
    then_accepts _ _ (ok_accepts _ c.in_ok-vus.vus users) (then_accepts _ _ each c.in_ok-max_duration.ensures.accepted)
