use Rattle.std.proofs.Common.{◌∙◌}
use Rattle.ld_arrival.proofs.CountLemmas.{count_of_constant}
use Rattle.ld_arrival.proofs.constant_rate.ConstantRate.count.Goals as goal

pub returns : goal.returns
returns c = c.div_ceil.ensures ∙ (count_of_constant _ _ _ c.requires).count
