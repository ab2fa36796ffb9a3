use Rattle.std.proofs.Common.{◌≡◌, ◌*◌, ◌<◌, ℕ, false}
use Rattle.ld_set.specs.Words.{matches}
use Rattle.ld_set.proofs.number_set.first_match.Given as goal

abbrev pub invariant-loop-at : goal.invariant-loop-at
invariant-loop-at l = (k : ℕ) → k < 64 * l.at → matches l.words l.others l.wanted k ≡ false
