use Rattle.ld_machine.proofs.StartsLastLemmas.{start_in_step}
use Rattle.ld_machine.proofs.virtual_time.starts_last.Goals as goal

pub returns : goal.returns
returns c = start_in_step
