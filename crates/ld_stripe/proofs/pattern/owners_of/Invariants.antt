use Rattle.ld_stripe.proofs.PatternLemmas.{IsSoFar}
use Rattle.ld_stripe.proofs.pattern.owners_of.Given as goal

abbrev pub invariant-loop-index : goal.invariant-loop-index
invariant-loop-index l = IsSoFar l.weights l.owners.items l.given.items l._index
