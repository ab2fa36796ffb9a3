use Rattle.ld_stripe.proofs.FirstDueLemmas.{Leads}
use Rattle.ld_stripe.proofs.pattern.first_due.Given as goal

abbrev pub invariant-loop-position : goal.invariant-loop-position
invariant-loop-position l = Leads l.weights l.owners l.position l.most l.owner
