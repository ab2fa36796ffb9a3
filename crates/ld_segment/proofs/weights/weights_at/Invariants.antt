use Rattle.std.proofs.Common.{◌≡◌, take}
use Rattle.ld_segment.proofs.WeightsLemmas.{all_parts, differences}
use Rattle.ld_segment.proofs.weights.weights_at.Given as goal

abbrev pub invariant-loop-position : goal.invariant-loop-position
invariant-loop-position l = l.weights.items ≡ differences (take l.position (all_parts l.period l.points))
