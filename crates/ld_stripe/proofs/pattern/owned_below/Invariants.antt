use Rattle.ld_stripe.proofs.PlaceLemmas.{IsPassed}
use Rattle.ld_stripe.proofs.pattern.owned_below.Given as goal

abbrev pub invariant-loop-index : goal.invariant-loop-index
invariant-loop-index l = IsPassed l.owners l.position l.low l.index l.value

abbrev pub decreases-loop-index : goal.decreases-loop-index
decreases-loop-index l = l.index
