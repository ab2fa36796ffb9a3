use Rattle.ld_machine.proofs.FirstOfAllLemmas.{all_from, each_closed, not_closed, act_open, closed_over}
use Rattle.ld_machine.proofs.together.all_over.Goals as goal

pub returns-clause-over : goal.returns-clause-over
returns-clause-over c plan state thread t = closed_over plan state t thread

pub returns-clause-each : goal.returns-clause-each
returns-clause-each c state = (each_closed state, all_from state.shares)

pub returns-clause-acts : goal.returns-clause-acts
returns-clause-acts c plan state t n m = act_open plan state t n m

pub returns-clause-open_one : goal.returns-clause-open_one
returns-clause-open_one c = not_closed
