use Rattle.ld_ramping.proofs.FirstLemmas.{are_first_ones}
use Rattle.ld_ramping.proofs.laws.first_ones.Goals as goal

pub returns : goal.returns
returns c = are_first_ones
