use Rattle.ld_machine.specs.State.{opening}
use Rattle.ld_machine.proofs.HolderLemmas.{opening_holds}
use Rattle.ld_machine.proofs.TurnLemmas.{steps_alternate}
use Rattle.ld_machine.proofs.laws.starts_alternate.Goals as goal

pub returns : goal.returns
returns c plan history h = steps_alternate plan history (opening plan) h (opening_holds plan)
