use Rattle.ld_plan.proofs.AllPlansLemmas as lemmas
use Rattle.ld_plan.proofs.laws.items_owned_once.Goals as goal

pub returns-clause-arrivals : goal.returns-clause-arrivals
returns-clause-arrivals c = lemmas.arrivals_owned_once

pub returns-clause-items : goal.returns-clause-items
returns-clause-items c = lemmas.items_owned_once
