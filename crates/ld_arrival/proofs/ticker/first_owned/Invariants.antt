use Rattle.std.proofs.Common.{◌≢◌, ◌<◌, ◌≤◌, ℕ}
use Rattle.ld_stripe.specs.Striping.{owner_at}
use Rattle.ld_arrival.proofs.ticker.first_owned.Given as goal

abbrev pub invariant-loop-k : goal.invariant-loop-k
invariant-loop-k l = (k : ℕ) → l.from ≤ k → k < l.k → owner_at l.stripe.owners k ≢ l.position
