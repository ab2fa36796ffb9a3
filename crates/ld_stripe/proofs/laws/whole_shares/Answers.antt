use Rattle.ld_stripe.proofs.RescaleLaws.{whole_share}
use Rattle.ld_stripe.proofs.laws.whole_shares.Goals as goal

pub returns : goal.returns
returns c = whole_share
