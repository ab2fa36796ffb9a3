use Rattle.ld_stripe.proofs.StripingLaws.{striping_exists, striping_unique}
use Rattle.ld_stripe.proofs.laws.one_striping.Goals as goal

pub returns-clause-exists : goal.returns-clause-exists
returns-clause-exists c = λ weights some. striping_exists weights

pub returns-clause-unique : goal.returns-clause-unique
returns-clause-unique c = striping_unique
