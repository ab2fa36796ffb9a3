use Rattle.std.proofs.Common.{◌≡◌, ◌-◌, ◌<◌, ◌≤◌, ℕ, length, slice_index}
use Rattle.ld_set.proofs.number_set.first_used.Given as goal

abbrev pub invariant-words : goal.invariant-words
invariant-words l = (l.from ≤ l.at) × (l.at ≤ length l.words) × ((k : ℕ) → l.from ≤ k → k < l.at → slice_index l.words k ≡ 0)

abbrev pub decreases-words : goal.decreases-words
decreases-words l = length l.words - l.at
