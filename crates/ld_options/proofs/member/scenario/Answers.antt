-- A scenario that is read isn't refused.
use Rattle.std.proofs.lemmas.Result.{IfOk-weaker}
use Rattle.ld_json.proofs.RulesLemmas.{then_accepts}
use Rattle.ld_options.proofs.RefusalLemmas.{known_accepts, ok_accepts}
use Rattle.ld_options.proofs.member.scenario.Goals as goal

pub returns-clause-accepted : goal.returns-clause-accepted
returns-clause-accepted c =
    IfOk-weaker _ _ _
    (λ s accepts. then_accepts _ _ c.in_ok-check_name.ensures.accepted
    (then_accepts _ _ (ok_accepts _ c.in_ok-kind.kind c.in_ok-kind.ensures.0)
    (known_accepts c.args.scripts.now.names c.args.node.now c.in_ok-kind.kind c.in_ok-kind.ensures.0 accepts)))
    c.fields.ensures.accepted
