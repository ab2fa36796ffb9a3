-- Where each field is read, none is refused.
use Rattle.ld_json.proofs.RulesLemmas.{then_accepts}
use Rattle.ld_options.proofs.RefusalLemmas.{ok_accepts}
use Rattle.ld_options.proofs.iterations.shared_iterations.Goals as goal

pub returns-clause-accepted : goal.returns-clause-accepted
returns-clause-accepted c =
    then_accepts _ _ (ok_accepts _ c.in_ok-vus.vus c.in_ok-vus.ensures.answer.0)
    (then_accepts _ _ (ok_accepts _ c.in_ok-iterations.iterations c.in_ok-iterations.ensures.answer.0) c.in_ok-max_duration.ensures.accepted)
