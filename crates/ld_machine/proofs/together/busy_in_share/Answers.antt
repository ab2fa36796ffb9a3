use Rattle.std.proofs.Common.{filter, ap}
use Rattle.ld_machine.specs.State.{is_busy}
use Rattle.ld_machine.proofs.BusyLemmas.{busy_hold, busy_let_go, busy_put_busy, busy_put_idle, held_end_item}
use Rattle.ld_machine.proofs.together.busy_in_share.Goals as goal

pub returns-clause-held : goal.returns-clause-held
returns-clause-held c = busy_hold

pub returns-clause-let_go : goal.returns-clause-let_go
returns-clause-let_go c = busy_let_go

pub returns-clause-started : goal.returns-clause-started
returns-clause-started c = busy_put_busy

pub returns-clause-returned : goal.returns-clause-returned
returns-clause-returned c = busy_put_idle

pub returns-clause-ended : goal.returns-clause-ended
returns-clause-ended c part item share = ap (λ held. filter is_busy held) (held_end_item part item share)
