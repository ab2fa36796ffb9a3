use Rattle.ld_run.proofs.DeliveryLemmas.{full_lacked, full_said}
use Rattle.ld_run.proofs.delivery.end.Goals as goal

pub returns-in-Ok : goal.returns-in-Ok
returns-in-Ok g c = rw c.in-Some.is (full_said c.in-Some.full _ _ _ (rw (c.deref.ensures.value, c.in-Ok.ensures) at c.say.ensures))

pub returns-in-Err : goal.returns-in-Err
returns-in-Err g c = rw c.in-Some.is (full_lacked c.in-Some.full _ _ _ c.say-in-Err.ensures)
