use Rattle.ld_machine.specs.State.{opening}
use Rattle.ld_machine.proofs.NumberedLemmas.{steps_numbered}
use Rattle.ld_machine.proofs.playing.numbered.Goals as goal

pub returns : goal.returns
returns c plan history legal = steps_numbered plan history (opening plan) legal
