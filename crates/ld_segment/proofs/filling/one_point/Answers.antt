use Rattle.ld_segment.specs.Segments.{one_point}
use Rattle.ld_segment.proofs.filling.one_point.Goals as goal

pub invariant_of-result : goal.invariant_of-result
invariant_of-result c = record { positive = one_point.positive; lowest = one_point.lowest }
