use Rattle.std.proofs.Common.{take}
use Rattle.ld_plan.proofs.PartsLemmas.{MadeSoFar}
use Rattle.ld_plan.proofs.owned.owned_parts.Given as goal

abbrev pub invariant-loop-number : goal.invariant-loop-number
invariant-loop-number l = MadeSoFar l.options l.positions l.position (take l.number l.options.scenarios) l.parts.items
