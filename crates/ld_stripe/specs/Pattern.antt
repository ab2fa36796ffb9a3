-- How far a pattern has come.
use Rattle.std.specs.Prelude.{◌≡◌, ◌<◌, ℕ, List, length, slice_index}
use Rattle.ld_stripe.specs.Striping.{given}

-- of each position, how many of the owners it is
pub record AreGiven (weights owners counts : List ℕ) : Type 0 where
  pub each_has : length counts ≡ length weights
  pub counted : (j : ℕ) → j < length counts → slice_index counts j ≡ given owners j
