use Rattle.ld_segment.proofs.WeightsLemmas.{weights_from_points, weights_unique}
use Rattle.ld_segment.proofs.weights_laws.one_list_of_weights.Goals as goal

pub returns-clause-exists : goal.returns-clause-exists
returns-clause-exists c = λ points period filled has. (_, weights_from_points period points filled has)

pub returns-clause-unique : goal.returns-clause-unique
returns-clause-unique c = weights_unique
