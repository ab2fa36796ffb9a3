use Rattle.std.proofs.Common.{take}
use Rattle.ld_segment.specs.Points.{Rise}
use Rattle.ld_segment.proofs.points.first_not_above.Given as goal

abbrev pub invariant-loop-place : goal.invariant-loop-place
invariant-loop-place l = Rise (take l.place l.points)
