use Rattle.ld_machine.proofs.FirstOfEachLemmas.{first_tells, first_passes, some_first}
use Rattle.ld_machine.proofs.together.first_of_list.Goals as goal

pub returns-clause-are : goal.returns-clause-are
returns-clause-are c moves m = (first_tells moves m, first_passes moves m)

pub returns-clause-exist : goal.returns-clause-exist
returns-clause-exist c = some_first
