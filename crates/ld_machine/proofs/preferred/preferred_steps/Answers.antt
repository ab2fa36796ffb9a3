use Rattle.ld_machine.proofs.ListLemmas.{Contains-from_In}
use Rattle.ld_machine.proofs.FirstOfAllLemmas.{In-of}
use Rattle.ld_machine.proofs.PreferredLemmas.{steps_are, steps_there, chosen_gives, steps_of_nobody}
use Rattle.ld_machine.proofs.preferred.preferred_steps.Goals as goal

pub returns-clause-steps : goal.returns-clause-steps
returns-clause-steps c plan state thread ask t prefer r h = Contains-from_In r (steps_are plan state thread t ask prefer r (In-of h))

pub returns-clause-some : goal.returns-clause-some
returns-clause-some c plan state thread ask t prefer r h =
    let other = steps_there plan state thread t ask prefer r (In-of h) in
    (other.0, Contains-from_In other.0 other.1)

pub returns-clause-chosen : goal.returns-clause-chosen
returns-clause-chosen c plan state thread t prefer m r first on h =
    let other = chosen_gives plan state thread t prefer m r (In-of first) on (In-of h) in
    (other.0, Contains-from_In other.0 other.1, other.2, other.3)

pub returns-clause-nobody : goal.returns-clause-nobody
returns-clause-nobody c plan state thread ask t r well h = Contains-from_In r (steps_of_nobody plan state thread t well ask r (In-of h))
