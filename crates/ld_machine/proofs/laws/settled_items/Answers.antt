use Rattle.ld_machine.proofs.SettledLemmas.{settled_item, settled_returned}
use Rattle.ld_machine.proofs.laws.settled_items.Goals as goal

pub returns-clause-items : goal.returns-clause-items
returns-clause-items c = settled_item

pub returns-clause-returned : goal.returns-clause-returned
returns-clause-returned c = settled_returned
