use Rattle.ld_num.proofs.DigitLemmas.{power_positive}
use Rattle.ld_num.proofs.reading.power_of_ten.Goals as goal

pub returns-clause-positive : goal.returns-clause-positive
returns-clause-positive c = rw c.pow.ensures (power_positive c.args.exponent)
