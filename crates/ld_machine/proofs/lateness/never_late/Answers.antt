use Rattle.ld_machine.specs.State.{opening}
use Rattle.ld_machine.proofs.LatenessLemmas.{opening_answered, steps_on_time}
use Rattle.ld_machine.proofs.lateness.never_late.Goals as goal

pub returns : goal.returns
returns c plan long history timed rehearsed room =
    steps_on_time plan timed history (opening plan) 0 rehearsed.legal room (opening_answered plan timed)
