-- The least common multiple.
use Rattle.std.specs.Prelude.{ℕ}
use Rattle.std.specs.Int.{◌∣◌}

-- both numbers divide the multiple, and it divides each number that both divide
pub record IsLcm (a b multiple : ℕ) : Type 0 where
  pub of_a : a ∣ multiple
  pub of_b : b ∣ multiple
  pub least : (other : ℕ) → a ∣ other → b ∣ other → multiple ∣ other
