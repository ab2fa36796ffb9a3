-- The items that slots start next, as they are seen.
use Rattle.std.specs.Prelude.{ℕ, List}

-- how many items each slot has, and the next one of each slot, by the slot's number
pub record NextItemsView : Type 0 where
  pub each : ℕ
  pub next : List ℕ
