use Rattle.std.proofs.Common.{sym}
use Rattle.ld_words.proofs.MeaningLemmas.{never_weights}
use Rattle.ld_words.proofs.meaning.weights_at.Goals as goal

pub unreachable-requires-in_default-2 : goal.unreachable-requires-in_default-2
unreachable-requires-in_default-2 c =
    never_weights c.args.taken.now c.args.place _ c.requires (sym c.in-Some.ensures) (rw c.in_default-2.is at c.in_ok-weights.ensures)
