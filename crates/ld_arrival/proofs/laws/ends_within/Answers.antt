use Rattle.ld_arrival.proofs.CountLemmas as lemmas
use Rattle.ld_arrival.proofs.laws.ends_within.Goals as goal

pub returns : goal.returns
returns c = lemmas.ends_within
