use Rattle.ld_stripe.proofs.PlaceLemmas as lemmas
use Rattle.ld_stripe.proofs.laws.one_place.Goals as goal

pub returns : goal.returns
returns c = lemmas.one_place
