use Rattle.ld_plan.proofs.PlanLemmas as lemmas
use Rattle.ld_plan.proofs.laws.one_plan.Goals as goal

pub returns : goal.returns
returns c = lemmas.one_plan
