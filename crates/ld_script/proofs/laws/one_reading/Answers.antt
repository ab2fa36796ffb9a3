use Rattle.ld_script.proofs.OneScriptsLemmas.{one_scripts}
use Rattle.ld_script.proofs.laws.one_reading.Goals as goal

pub returns : goal.returns
returns c = one_scripts
