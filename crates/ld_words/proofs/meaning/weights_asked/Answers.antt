use Rattle.ld_words.proofs.MeaningLemmas.{has_count, has_position, has_weights, weights_meant}
use Rattle.ld_words.proofs.meaning.weights_asked.Goals as goal

pub weights_at-requires : goal.weights_at-requires
weights_at-requires c = has_weights _ c.requires

pub number_at-requires : goal.number_at-requires
number_at-requires c = has_position _ c.requires

pub number_at-requires-2 : goal.number_at-requires-2
number_at-requires-2 c = has_count _ c.requires

pub returns : goal.returns
returns c = weights_meant _ _ _ _ c.requires c.in_ok-weights_at.ensures c.number_at.ensures c.number_at-2.ensures
