use Rattle.ld_plan.proofs.RefusalLemmas as lemmas
use Rattle.ld_plan.proofs.laws.accepted_or_refused.Goals as goal

pub returns-clause-either : goal.returns-clause-either
returns-clause-either c = lemmas.accepted_or_refused

pub returns-clause-not_both : goal.returns-clause-not_both
returns-clause-not_both c = lemmas.accepted_not_refused
