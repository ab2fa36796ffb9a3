use Rattle.ld_machine.proofs.LegalLemmas.{goes_on_legally}
use Rattle.ld_machine.proofs.laws.goes_on.Goals as goal

pub returns : goal.returns
returns c = goes_on_legally
