use Rattle.std.proofs.Common.{take}
use Rattle.ld_segment.specs.Weights.{denominators, IsLeastMultiple}
use Rattle.ld_segment.proofs.weights.common_denominator.Given as goal

abbrev pub invariant-loop-point : goal.invariant-loop-point
invariant-loop-point l = IsLeastMultiple (take l.point-index (denominators l.points)) l.multiple
