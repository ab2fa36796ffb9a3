use Rattle.ld_machine.proofs.ValidPlanLemmas.{planned_within, rising_distinct}
use Rattle.ld_machine.proofs.valid_plans.valid_plans_fit.Goals as goal

pub returns-clause-timed : goal.returns-clause-timed
returns-clause-timed c plan valid = λ part at. (valid.parts part at).timed

pub returns-clause-within : goal.returns-clause-within
returns-clause-within c plan valid = planned_within plan.parts plan.planned plan.limit valid.users

pub returns-clause-distinct : goal.returns-clause-distinct
returns-clause-distinct c part valid = rising_distinct _ valid.items
