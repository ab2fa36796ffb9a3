use Rattle.ld_segment.proofs.WeightsPeriodLemmas.{period_exists, period_unique}
use Rattle.ld_segment.proofs.weights_laws.one_period.Goals as goal

pub returns-clause-exists : goal.returns-clause-exists
returns-clause-exists c = period_exists

pub returns-clause-unique : goal.returns-clause-unique
returns-clause-unique c = period_unique
