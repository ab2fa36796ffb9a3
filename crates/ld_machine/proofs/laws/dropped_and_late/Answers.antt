use Rattle.ld_machine.specs.State.{opening}
use Rattle.ld_machine.proofs.DropLemmas.{steps_allowed}
use Rattle.ld_machine.proofs.laws.dropped_and_late.Goals as goal

pub returns : goal.returns
returns c plan history within h = steps_allowed plan history (opening plan) within h
