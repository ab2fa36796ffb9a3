use Rattle.std.proofs.Common.{rules}
use Rattle.ld_words.proofs.WeightsLemmas.{weights_test}
use Rattle.ld_words.proofs.weights.are_weights.Goals as goal

pub returns-else-is_empty : goal.returns-else-is_empty
returns-else-is_empty c = weights_test c.args.word.now _ (search rules) c.are_numbers.ensures
