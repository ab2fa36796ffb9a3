use Rattle.ld_machine.proofs.CountedLemmas.{starts_are_ended, items_are_ended}
use Rattle.ld_machine.proofs.counts.counted.Goals as goal

pub returns-clause-iterations : goal.returns-clause-iterations
returns-clause-iterations c = starts_are_ended

pub returns-clause-items : goal.returns-clause-items
returns-clause-items c = items_are_ended
