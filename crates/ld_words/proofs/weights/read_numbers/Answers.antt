use Rattle.ld_words.proofs.NumberLemmas.{not_numbers_at, numbers_more_at}
use Rattle.ld_words.proofs.weights.read_numbers.Goals as goal

pub returns-in_default : goal.returns-in_default
returns-in_default c =
    not_numbers_at c.args.texts.now c.loop-text.text-index _ _ c.loop-text-test.true c.read_number.ensures c.in_default.is

pub loop-text-preserved : goal.loop-text-preserved
loop-text-preserved c =
    rw c.in_ok-push.ensures.items
    (numbers_more_at c.args.texts.now c.loop-text.text-index _ _ _ _ c.loop-text-test.true c.loop-text.invariant c.read_number.ensures c.in-Some.is)
