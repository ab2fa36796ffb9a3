use Rattle.ld_segment.proofs.WeightsLengthLemmas.{length_between, length_unique}
use Rattle.ld_segment.proofs.weights_laws.one_length.Goals as goal

pub returns-clause-exists : goal.returns-clause-exists
returns-clause-exists c = length_between

pub returns-clause-unique : goal.returns-clause-unique
returns-clause-unique c = length_unique
