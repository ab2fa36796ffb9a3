use Rattle.std.proofs.Common.{◌∙◌}
use Rattle.ld_machine.specs.State.{Busy, Idle}
use Rattle.ld_machine.specs.Effect.{put_condition, change_share}
use Rattle.ld_machine.proofs.WhoHoldsLemmas.{holder_hold, holder_put, holder_let_go, holder_end, holder_stop, holder_close, holder_command}
use Rattle.ld_machine.proofs.holders.holders_behind_acts.Goals as goal

pub returns-clause-take : goal.returns-clause-take
returns-clause-take c plan state thread t n user slot other share well = holder_hold state n user slot other share

pub returns-clause-grow : goal.returns-clause-grow
returns-clause-grow c plan state thread t n user slot other share well = holder_hold state n user slot other share

pub returns-clause-start : goal.returns-clause-start
returns-clause-start c plan state thread t n user item until other h well e =
    holder_end plan n item (change_share state n (put_condition user (Busy thread item until))) other
    ∙ holder_put state n well user other (Busy thread item until) h e

pub returns-clause-returned : goal.returns-clause-returned
returns-clause-returned c plan state thread t n user item other outcome tally h well = holder_put state n well user other Idle h

pub returns-clause-release : goal.returns-clause-release
returns-clause-release c plan state thread t n user other h well = holder_let_go state n well user other h

pub returns-clause-dropped : goal.returns-clause-dropped
returns-clause-dropped c plan state thread t n item = holder_end plan n item state

pub returns-clause-late : goal.returns-clause-late
returns-clause-late c plan state thread t n item = holder_end plan n item state

pub returns-clause-stop : goal.returns-clause-stop
returns-clause-stop c plan state thread t = holder_stop state

pub returns-clause-close : goal.returns-clause-close
returns-clause-close c plan state thread t = holder_close state

pub returns-clause-control : goal.returns-clause-control
returns-clause-control c plan state thread t command = holder_command state command t
