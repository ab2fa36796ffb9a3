use Rattle.ld_stripe.proofs.StripingLaws.{share_period}
use Rattle.ld_stripe.proofs.laws.every_period.Goals as goal

pub returns : goal.returns
returns c = share_period
