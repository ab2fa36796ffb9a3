-- The first element that isn't read is refused; and where each is read, none is.
use Rattle.ld_json.proofs.RulesLemmas.{all_accept, first_at}
use Rattle.ld_options.specs.Stages.{RefusesStage}
use Rattle.ld_options.proofs.RefusalLemmas.{handed_on}
use Rattle.ld_options.proofs.StageLemmas.{all_stages, stage_at}
use Rattle.ld_options.proofs.stages.listed.Goals as goal

pub returns-in_err-stage-clause-refused : goal.returns-in_err-stage-clause-refused
returns-in_err-stage-clause-refused c =
    handed_on _ _ _ c.from_residual.ensures
    (λ other. first_at (RefusesStage c.args.greatest) c.args.nodes.now c.loop-node.node-index c.node-item.result c.loop-node-test.true c.node-item.is c.loop-node.invariant.accepted _ (c.in_err-stage.ensures.refused other))

pub loop-node-preserved : goal.loop-node-preserved
loop-node-preserved c =
    rw c.in-Ok.ensures.items
    (stage_at c.args.greatest c.args.nodes.now c.loop-node.node-index c.node-item.result c.loop-node.list.items c.in_ok-stage.stage c.loop-node-test.true c.node-item.is c.loop-node.invariant
    c.in_ok-stage.ensures.value c.in_ok-stage.ensures.within c.in_ok-stage.ensures.accepted)

pub returns-clause-accepted : goal.returns-clause-accepted
returns-clause-accepted c =
    all_accept (RefusesStage c.args.greatest) c.args.nodes.now (all_stages c.args.greatest c.args.nodes.now c.loop-node.node-index c.loop-node.list.items c.loop-node-test.false c.loop-node.invariant).accepted
