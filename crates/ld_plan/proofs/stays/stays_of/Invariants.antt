use Rattle.std.proofs.Common.{take}
use Rattle.ld_plan.proofs.StayLemmas.{AreSoFar}
use Rattle.ld_plan.proofs.stays.stays_of.Given as goal

abbrev pub invariant-loop-part : goal.invariant-loop-part
invariant-loop-part l = AreSoFar (take l.part-index l.parts) l.stays.items
