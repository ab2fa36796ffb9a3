use Rattle.ld_machine.proofs.BusyLemmas.{busy_end, busy_command, take_busy, grow_busy, start_busy, return_busy, release_busy, stop_busy, close_busy}
use Rattle.ld_machine.proofs.together.busy_behind_acts.Goals as goal

pub returns-clause-take : goal.returns-clause-take
returns-clause-take c plan state thread t n = take_busy plan state thread t n

pub returns-clause-grow : goal.returns-clause-grow
returns-clause-grow c plan state thread t n = grow_busy plan state thread t n

pub returns-clause-start : goal.returns-clause-start
returns-clause-start c plan state thread t n = start_busy plan state thread t n

pub returns-clause-dropped : goal.returns-clause-dropped
returns-clause-dropped c plan state thread t n item = busy_end plan n item state

pub returns-clause-late : goal.returns-clause-late
returns-clause-late c plan state thread t n item = busy_end plan n item state

pub returns-clause-returned : goal.returns-clause-returned
returns-clause-returned c plan state thread t n = return_busy plan state thread t n

pub returns-clause-release : goal.returns-clause-release
returns-clause-release c plan state thread t n = release_busy plan state thread t n

pub returns-clause-stop : goal.returns-clause-stop
returns-clause-stop c plan state thread t n = stop_busy plan state thread t n

pub returns-clause-close : goal.returns-clause-close
returns-clause-close c plan state thread t n = close_busy plan state thread t n

pub returns-clause-control : goal.returns-clause-control
returns-clause-control c plan state thread t command = busy_command state command t
