use Rattle.ld_machine.proofs.WaitsOnLemmas.{wait_later}
use Rattle.ld_machine.proofs.virtual_time.waits_on.Goals as goal

pub returns : goal.returns
returns c = wait_later
