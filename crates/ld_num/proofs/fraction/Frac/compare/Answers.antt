use Rattle.ld_num.proofs.FractionLemmas.{equal_exactly}
use Rattle.ld_num.proofs.fraction.Frac.compare.Goals as goal

pub returns-clause-equal : goal.returns-clause-equal
returns-clause-equal c = equal_exactly c.args.self.now c.args.other.now c.cmp.result c.cmp.ensures
