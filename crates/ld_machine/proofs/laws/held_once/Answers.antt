use Rattle.ld_machine.specs.State.{opening}
use Rattle.ld_machine.proofs.HolderLemmas.{steps_hold, opening_holds}
use Rattle.ld_machine.proofs.laws.held_once.Goals as goal

pub returns : goal.returns
returns c plan history user h = (steps_hold plan history (opening plan) h (opening_holds plan)).once user
