-- Which idle user is chosen.
use Rattle.std.specs.Prelude.{◌≡◌, ◌&&◌, ℕ, Bool, true, not, Contains, Some, filter, slice_get}
use Rattle.ld_machine.specs.Scenario.{Scenario}
use Rattle.ld_machine.specs.State.{HeldUser, idle_users}
use Rattle.ld_seats.specs.Seating.{SeatingView}
use Rattle.ld_seats.specs.declared.which.Which.{Which}
use Rattle.ld_seats.specs.declared.which.Which.TheVariants.{Any, Among, Others}
use Rattle.ld_set.specs.SetView.{is_among}

-- the slot is one of those that are meant
abbrev pub is_of : Which → ℕ → Bool
is_of Any slot = true
is_of (Among set) slot = is_among set.now.numbers slot
is_of (Others set) slot = not (is_among set.now.numbers slot)

-- the slot is one of those that are meant, and its user is idle
abbrev pub is_meant : Which → SeatingView → ℕ → Bool
is_meant which seating slot = is_among seating.idle slot && is_of which slot

-- the slot is the first, and so the least, of these slots
abbrev pub IsLeastMeant : Which → SeatingView → ℕ → Type 0
IsLeastMeant which seating slot = slice_get (filter (is_of which) seating.idle) 0 ≡ Some slot

-- the user is idle on this slot, which passes the test, and it is the preferred one where that is such a user
pub record IsChosen (s : Scenario) (passes : ℕ → Bool) (prefer user slot : ℕ) : Type 0 where
  pub one : HeldUser
  pub idle : Contains (idle_users s.share) one
  pub user_is : one.user ≡ user
  pub slot_is : one.slot ≡ slot
  pub fits : passes slot ≡ true
  pub preferred : (h : HeldUser) → Contains (idle_users s.share) h → passes h.slot ≡ true → h.user ≡ prefer →
      user ≡ prefer
