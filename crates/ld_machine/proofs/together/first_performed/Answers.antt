use Rattle.ld_machine.specs.Step.{move_result}
use Rattle.ld_machine.proofs.ListLemmas.{Contains-from_In}
use Rattle.ld_machine.proofs.FirstOfAllLemmas.{In-of, first_performed}
use Rattle.ld_machine.proofs.together.first_performed.Goals as goal

pub returns : goal.returns
returns c plan state thread t m h = Contains-from_In (move_result plan state thread t m) (first_performed plan state t thread m (In-of h))
