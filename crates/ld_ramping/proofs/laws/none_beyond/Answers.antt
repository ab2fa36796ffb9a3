use Rattle.ld_ramping.proofs.FirstLemmas.{none_above}
use Rattle.ld_ramping.proofs.laws.none_beyond.Goals as goal

pub returns : goal.returns
returns c = none_above
