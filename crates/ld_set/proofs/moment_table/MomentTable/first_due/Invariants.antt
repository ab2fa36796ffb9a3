use Rattle.std.specs.Prelude.{◌≡◌, ◌*◌, ◌<◌, ◌≤◌, ℕ, false}
use Rattle.ld_set.specs.Moments.{is_due}
use Rattle.ld_set.proofs.moment_table.MomentTable.first_due.Given as goal

abbrev pub invariant-loop-block : goal.invariant-loop-block
invariant-loop-block l = (k : ℕ) → l.from ≤ k → k < 32 * l.block → is_due l.self l.moment k ≡ false
