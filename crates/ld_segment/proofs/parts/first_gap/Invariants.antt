use Rattle.std.proofs.Common.{take}
use Rattle.ld_segment.specs.Refusal.{Meet}
use Rattle.ld_segment.proofs.parts.first_gap.Given as goal

abbrev pub invariant-loop-place : goal.invariant-loop-place
invariant-loop-place l = Meet (take l.place l.parts)
