-- Which scenario of the machine a seating is of.
use Rattle.std.specs.Prelude.{◌≡◌, ◌<◌, ◌≤◌, ◌==◌, ℕ, Bool, true, not, List, Contains, filter}
use Rattle.std.specs.List.{list_any}
use Rattle.std.specs.List.Sorted.{IsStrictlyIncreasing}
use Rattle.ld_base.specs.declared.act.Act.{Act}
use Rattle.ld_machine.specs.Plan.{owned_slots}
use Rattle.ld_machine.specs.Scenario.{Scenario, is_held_slot}
use Rattle.ld_machine.specs.ShareEffect.{share_after}
use Rattle.ld_machine.specs.Slots.{has_slots}
use Rattle.ld_machine.specs.State.{HeldUser, held_count, idle_users, opening_share}
use Rattle.ld_machine.specs.Told.{IsHeldInOrder, MayBeTold}
use Rattle.ld_seats.specs.Seats.{IsSeat, SeatsView}
use Rattle.ld_set.specs.SetView.{is_among}

-- what is kept of a scenario's users: how many slots the whole test has of it, the owned slots that no user has
-- and those whose users are idle, each rising, who has which slot, and how many users the scenario holds
pub record SeatingView : Type 0 where
  pub slots : ℕ
  pub vacant : List ℕ
  pub idle : List ℕ
  pub seats : SeatsView
  pub held : ℕ

-- the user of some idle one has the slot
abbrev pub is_idle_slot : Scenario → ℕ → Bool
is_idle_slot s slot = list_any (λ (h : HeldUser). h.slot == slot) (idle_users s.share)

-- the held user is one from 1 to 1,000, on an owned slot, and this is its seat
pub record IsSeated (seats : SeatsView) (s : Scenario) (h : HeldUser) : Type 0 where
  pub some : 1 ≤ h.user
  pub few : h.user ≤ 1000
  pub owned : Contains (owned_slots s.part.executor) h.slot
  pub seat : IsSeat seats h.user h.slot

-- it is the seating of the scenario, whose executor has slots: it keeps what stands there of its users; the
-- scenario's slots rise, and are some of the test's; and the users that it holds stand in order of their numbers,
-- each once
pub record IsSeating (seating : SeatingView) (s : Scenario) : Type 0 where
  pub slotted : has_slots s.part.executor ≡ true
  pub vacant : seating.vacant ≡ filter (λ slot. not (is_held_slot s slot)) (owned_slots s.part.executor)
  pub idle : (slot : ℕ) → is_among seating.idle slot ≡ is_idle_slot s slot
  pub seats : (h : HeldUser) → Contains s.share.held h → IsSeated seating.seats s h
  pub held : seating.held ≡ held_count s.share
  pub rising : IsStrictlyIncreasing (owned_slots s.part.executor)
  pub few : (slot : ℕ) → Contains (owned_slots s.part.executor) slot → slot < seating.slots
  pub order : IsHeldInOrder s

-- it is the seating of each scenario that is at its opening, whose executor has slots and owns these
abbrev pub IsOpening : List ℕ → SeatingView → Type 0
IsOpening owned seating =
    (s : Scenario) → s.share ≡ opening_share → has_slots s.part.executor ≡ true → owned_slots s.part.executor ≡ owned →
    IsSeating seating s

-- whichever scenario the old seating is of: where that may be told of the act, the new one is the seating of what
-- the act, by any thread at any reading, makes of it
abbrev pub Follows : SeatingView → SeatingView → Act → Type 0
Follows old new act =
    (s : Scenario) (thread reading : ℕ) → IsSeating old s → MayBeTold s act →
    IsSeating new (record s { share = share_after s.part thread reading act s.share })
