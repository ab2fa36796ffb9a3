use Rattle.ld_machine.proofs.BusyStepLemmas.{busy_behind_act, busy_behind_return}
use Rattle.ld_machine.proofs.together.busy_behind_steps.Goals as goal

pub returns-clause-act : goal.returns-clause-act
returns-clause-act c plan state thread t reply n m well = busy_behind_act plan state thread t reply well n m

pub returns-clause-returned : goal.returns-clause-returned
returns-clause-returned c = busy_behind_return
