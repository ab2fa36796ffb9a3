use Rattle.ld_segment.proofs.WeightsFaultLemmas.{capped}
use Rattle.ld_segment.proofs.weights.capped_period.Goals as goal

pub returns : goal.returns
returns c =
    capped _ _ _ c.requires c.common_denominator.ensures.least c.common_denominator.ensures.too_large c.unwrap_or.ensures c.unwrap_or.type_inv
