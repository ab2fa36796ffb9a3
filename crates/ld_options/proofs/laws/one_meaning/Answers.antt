use Rattle.ld_options.proofs.OneLemmas.{one_options, one_refusal}
use Rattle.ld_options.proofs.ScenarioLemmas.{apart}
use Rattle.ld_options.proofs.laws.one_meaning.Goals as goal

pub returns-clause-options : goal.returns-clause-options
returns-clause-options c = one_options

pub returns-clause-refusal : goal.returns-clause-refusal
returns-clause-refusal c = one_refusal

pub returns-clause-apart : goal.returns-clause-apart
returns-clause-apart c = apart
