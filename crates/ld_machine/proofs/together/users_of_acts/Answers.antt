use Rattle.ld_machine.proofs.BusyStepLemmas.{number_of_act, share_of_act, idle_of_act, free_of_act, grown_of_act, out_is_busy}
use Rattle.ld_machine.proofs.together.users_of_acts.Goals as goal

pub returns-clause-share : goal.returns-clause-share
returns-clause-share c = share_of_act

pub returns-clause-idle : goal.returns-clause-idle
returns-clause-idle c = idle_of_act

pub returns-clause-free : goal.returns-clause-free
returns-clause-free c plan state t n m user act = free_of_act plan state t n m act user

pub returns-clause-grown : goal.returns-clause-grown
returns-clause-grown c plan state t n m user act = grown_of_act plan state t n m act user

pub returns-clause-out : goal.returns-clause-out
returns-clause-out c = out_is_busy

pub returns-clause-number : goal.returns-clause-number
returns-clause-number c = number_of_act
