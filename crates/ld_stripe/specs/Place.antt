-- Where a position's segmented index stands.
use Rattle.std.specs.Prelude.{◌≡◌, ◌-◌, ◌⊎◌, ℕ, List}
use Rattle.ld_stripe.specs.Striping.{owner_at, share_at}

-- The index stands at (0, 0), before all that the position owns, or at one of these: `unscaled` is that
-- index plus 1, and `scaled` its number among those that the position owns, from 1.
pub record IsPlace (owners : List ℕ) (j scaled unscaled : ℕ) : Type 0 where
  pub counted : share_at owners j unscaled ≡ scaled
  pub owned : (unscaled ≡ 0) ⊎ (owner_at owners (unscaled - 1) ≡ j)
