use Rattle.std.proofs.Common.{take}
use Rattle.ld_options.proofs.StageLemmas.{StagesSoFar}
use Rattle.ld_options.proofs.stages.listed.Given as goal

abbrev pub invariant-loop-node : goal.invariant-loop-node
invariant-loop-node l = StagesSoFar l.greatest (take l.node-index l.nodes) l.list.items
