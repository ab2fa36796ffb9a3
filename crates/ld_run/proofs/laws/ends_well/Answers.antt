use Rattle.ld_run.proofs.EndLemmas.{well_or_memory}
use Rattle.ld_run.proofs.laws.ends_well.Goals as goal

pub returns : goal.returns
returns c = well_or_memory
