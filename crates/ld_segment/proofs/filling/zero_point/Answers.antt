use Rattle.ld_segment.specs.Segments.{zero_point}
use Rattle.ld_segment.proofs.filling.zero_point.Goals as goal

pub invariant_of-result : goal.invariant_of-result
invariant_of-result c = record { positive = zero_point.positive; lowest = zero_point.lowest }
