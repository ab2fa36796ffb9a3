use Rattle.ld_arrival.proofs.ScheduleLaws as lemmas
use Rattle.ld_arrival.proofs.laws.owned_count.Goals as goal

pub returns : goal.returns
returns c = lemmas.owned_count
