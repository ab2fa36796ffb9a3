use Rattle.ld_machine.proofs.ToldLemmas.{told_in_order}
use Rattle.ld_machine.proofs.told.told_in_order.Goals as goal

pub returns : goal.returns
returns c = told_in_order
