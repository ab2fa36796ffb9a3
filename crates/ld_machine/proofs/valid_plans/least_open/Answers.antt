use Rattle.ld_machine.proofs.ValidPlanLemmas.{least_arrival, least_item, least_of_slot}
use Rattle.ld_machine.proofs.valid_plans.least_open.Goals as goal

pub returns-clause-item : goal.returns-clause-item
returns-clause-item c s item valid first = least_item s item valid first

pub returns-clause-arrival : goal.returns-clause-arrival
returns-clause-arrival c s a valid first = least_arrival s a valid first

pub returns-clause-slot : goal.returns-clause-slot
returns-clause-slot c s slots items slot item valid is found = least_of_slot s slots items slot item valid is found
