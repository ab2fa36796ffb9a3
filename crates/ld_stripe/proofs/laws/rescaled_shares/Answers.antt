use Rattle.ld_stripe.proofs.RescaleLaws.{rescaled_share}
use Rattle.ld_stripe.proofs.laws.rescaled_shares.Goals as goal

pub returns : goal.returns
returns c = rescaled_share
