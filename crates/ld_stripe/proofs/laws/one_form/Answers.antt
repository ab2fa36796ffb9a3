use Rattle.ld_stripe.proofs.LowestTermsLemmas as lemmas
use Rattle.ld_stripe.proofs.laws.one_form.Goals as goal

pub returns : goal.returns
returns c = lemmas.one_form
