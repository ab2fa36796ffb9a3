-- An element of which each member is read isn't refused.
use Rattle.std.specs.Prelude.{codes}
use Rattle.ld_json.proofs.RulesLemmas.{then_accepts}
use Rattle.ld_json.specs.Known.{allowed}
use Rattle.ld_options.proofs.RefusalLemmas.{node_accepts, ok_accepts}
use Rattle.ld_options.proofs.stages.stage.Goals as goal

pub returns-clause-accepted : goal.returns-clause-accepted
returns-clause-accepted c =
    then_accepts _ _ (node_accepts (allowed c.args.node.now (codes "duration target")) c.in_ok-only.field-0 c.in_ok-only.ensures.answer.0)
    (then_accepts _ _ c.in_ok-length.ensures.accepted (ok_accepts _ c.in_ok-target.target c.in_ok-target.ensures.answer.0))
