use Rattle.ld_machine.specs.State.{opening}
use Rattle.ld_machine.proofs.WellHeldLemmas.{opening_well, step_well, steps_well}
use Rattle.ld_machine.proofs.together.well_held.Goals as goal

pub returns-clause-opening : goal.returns-clause-opening
returns-clause-opening c = opening_well

pub returns-clause-step : goal.returns-clause-step
returns-clause-step c = step_well

pub returns-clause-legal : goal.returns-clause-legal
returns-clause-legal c plan history h = steps_well plan history (opening plan) h (opening_well plan)
