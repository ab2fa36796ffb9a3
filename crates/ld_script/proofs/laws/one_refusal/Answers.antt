use Rattle.ld_script.proofs.OneRefusalLemmas.{scripts_single}
use Rattle.ld_script.proofs.laws.one_refusal.Goals as goal

pub returns : goal.returns
returns c = scripts_single
