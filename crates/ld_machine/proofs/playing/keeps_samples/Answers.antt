use Rattle.ld_machine.proofs.KeepsSamplesLemmas.{legal_samples}
use Rattle.ld_machine.proofs.playing.keeps_samples.Goals as goal

pub returns : goal.returns
returns c = legal_samples
