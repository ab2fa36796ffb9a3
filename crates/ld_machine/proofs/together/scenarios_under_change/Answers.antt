use Rattle.ld_machine.proofs.ScenarioListLemmas.{change_sets, scenarios_set, length-opening, length-entries}
use Rattle.ld_machine.proofs.together.scenarios_under_change.Goals as goal

pub returns-clause-shares : goal.returns-clause-shares
returns-clause-shares c = change_sets

pub returns-clause-scenario : goal.returns-clause-scenario
returns-clause-scenario c plan state = scenarios_set state.controls plan.parts state.shares

pub returns-clause-opened : goal.returns-clause-opened
returns-clause-opened c plan = length-opening plan.parts

pub returns-clause-count : goal.returns-clause-count
returns-clause-count c plan state entries = length-entries plan entries state
