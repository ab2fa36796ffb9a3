use Rattle.ld_machine.proofs.FreeLemmas.{take_free, grow_free, release_free, start_free, end_free, return_free, stop_free, close_free, command_free}
use Rattle.ld_machine.proofs.together.free_behind_acts.Goals as goal

pub returns-clause-take : goal.returns-clause-take
returns-clause-take c plan state thread t n = take_free plan state thread t n

pub returns-clause-grow : goal.returns-clause-grow
returns-clause-grow c plan state thread t n = grow_free plan state thread t n

pub returns-clause-release : goal.returns-clause-release
returns-clause-release c plan state thread t n = release_free plan state thread t n

pub returns-clause-start : goal.returns-clause-start
returns-clause-start c plan state thread t n = start_free plan state thread t n

pub returns-clause-dropped : goal.returns-clause-dropped
returns-clause-dropped c plan state thread t n = end_free plan state thread t n

pub returns-clause-late : goal.returns-clause-late
returns-clause-late c plan state thread t n = end_free plan state thread t n

pub returns-clause-returned : goal.returns-clause-returned
returns-clause-returned c plan state thread t n = return_free plan state thread t n

pub returns-clause-stop : goal.returns-clause-stop
returns-clause-stop c plan state thread t n = stop_free plan state thread t n

pub returns-clause-close : goal.returns-clause-close
returns-clause-close c plan state thread t n = close_free plan state thread t n

pub returns-clause-control : goal.returns-clause-control
returns-clause-control c plan state thread t command = command_free state command t
