use Rattle.std.proofs.Common.{take}
use Rattle.ld_segment.specs.Refusal.{AreAtMostOne}
use Rattle.ld_segment.proofs.points.first_above_one.Given as goal

abbrev pub invariant-loop-place : goal.invariant-loop-place
invariant-loop-place l = AreAtMostOne (take l.place l.points)
