use Rattle.std.specs.Prelude.{◌≡◌, ◌<◌, ◌≤◌, ℕ, false}
use Rattle.ld_set.specs.Moments.{is_due}
use Rattle.ld_set.proofs.moment_table.first_due_between.Given as goal

abbrev pub invariant-loop-number : goal.invariant-loop-number
invariant-loop-number l = (k : ℕ) → l.from ≤ k → k < l.number → is_due l.moments l.moment k ≡ false
