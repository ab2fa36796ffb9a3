use Rattle.std.proofs.Common.{◌≡◌, ◌++◌, take}
use Rattle.ld_segment.specs.Printed.{sequence_text}
use Rattle.ld_segment.proofs.print.put_points.Given as goal

abbrev pub invariant-loop-place : goal.invariant-loop-place
invariant-loop-place l = l.into.items ≡ l.fn.into.items ++ sequence_text (take l.place l.points)
