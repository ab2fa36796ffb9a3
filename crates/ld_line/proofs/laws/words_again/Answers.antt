use Rattle.ld_line.proofs.AgainLemmas.{words_again}
use Rattle.ld_line.proofs.laws.words_again.Goals as goal

pub returns : goal.returns
returns c = words_again
