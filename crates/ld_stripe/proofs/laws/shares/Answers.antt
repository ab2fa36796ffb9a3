use Rattle.ld_stripe.proofs.StripingLaws.{shares_sum}
use Rattle.ld_stripe.proofs.laws.shares.Goals as goal

pub returns : goal.returns
returns c = shares_sum
