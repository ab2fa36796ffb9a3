-- Who has which slot, as it is seen.
use Rattle.std.specs.Prelude.{◌≡◌, ℕ, List, Some, slice_get}

-- the slot of each user and the user of each slot, by number
pub record SeatsView : Type 0 where
  pub slot_of : List ℕ
  pub user_of : List ℕ

-- the slot is kept as the user's, and the user as the slot's
pub record IsSeat (seats : SeatsView) (user slot : ℕ) : Type 0 where
  pub slot_is : slice_get seats.slot_of user ≡ Some slot
  pub user_is : slice_get seats.user_of slot ≡ Some user
