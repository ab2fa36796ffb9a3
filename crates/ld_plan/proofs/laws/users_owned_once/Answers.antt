use Rattle.ld_plan.proofs.AllPlansLemmas as lemmas
use Rattle.ld_plan.proofs.laws.users_owned_once.Goals as goal

pub returns-clause-pre : goal.returns-clause-pre
returns-clause-pre c = lemmas.users_owned_once

pub returns-clause-max : goal.returns-clause-max
returns-clause-max c = lemmas.most_users_owned_once
