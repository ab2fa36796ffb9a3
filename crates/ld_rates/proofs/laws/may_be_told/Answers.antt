use Rattle.ld_rates.proofs.TellLemmas.{told_applies}
use Rattle.ld_rates.proofs.laws.may_be_told.Goals as goal

pub returns : goal.returns
returns c state s act shows told = told_applies state s shows act told
