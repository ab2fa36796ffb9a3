use Rattle.std.specs.Prelude.{◌≡◌}
use Rattle.ld_stripe.specs.Striping.{owned_indices}
use Rattle.ld_iters.proofs.owned.owned_set.Given as goal

abbrev pub invariant-loop-number : goal.invariant-loop-number
invariant-loop-number l = (l.owned.limit ≡ l.total) × (l.owned.numbers ≡ owned_indices l.stripe.owners l.position l.number)
