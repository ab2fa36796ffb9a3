use Rattle.ld_machine.proofs.CountedLemmas.{settled_starts, settled_items_count}
use Rattle.ld_machine.proofs.counts.counted_when_settled.Goals as goal

pub returns-clause-iterations : goal.returns-clause-iterations
returns-clause-iterations c = settled_starts

pub returns-clause-items : goal.returns-clause-items
returns-clause-items c = settled_items_count
