use Rattle.ld_machine.proofs.FirstOfAllLemmas.{nothing_first, none_waits}
use Rattle.ld_machine.proofs.together.nothing_first.Goals as goal

pub returns-clause-none : goal.returns-clause-none
returns-clause-none c = nothing_first

pub returns-clause-waits : goal.returns-clause-waits
returns-clause-waits c plan state thread t = none_waits plan state t thread
