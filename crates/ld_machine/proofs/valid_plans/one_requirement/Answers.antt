use Rattle.ld_machine.proofs.ValidPlanLemmas.{one_greatest, planned_within}
use Rattle.ld_machine.proofs.valid_plans.one_requirement.Goals as goal

pub returns-clause-planned : goal.returns-clause-planned
returns-clause-planned c parts a b m n is_a is_b = one_greatest _ a b is_a.planned_is is_b.planned_is

pub returns-clause-limit : goal.returns-clause-limit
returns-clause-limit c parts a b m n is_a is_b = one_greatest _ m n is_a.limit_is is_b.limit_is

pub returns-clause-within : goal.returns-clause-within
returns-clause-within c parts planned limit is = planned_within parts planned limit is
