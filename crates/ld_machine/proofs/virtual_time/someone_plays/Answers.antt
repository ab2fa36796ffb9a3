use Rattle.ld_machine.proofs.SomeonePlaysLemmas.{plays_at_the_end}
use Rattle.ld_machine.proofs.virtual_time.someone_plays.Goals as goal

pub returns : goal.returns
returns c = plays_at_the_end
