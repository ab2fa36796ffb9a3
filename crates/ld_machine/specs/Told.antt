-- What a scenario may be told: the acts that the pool performs for it, whichever its executor is.
use Rattle.std.specs.Prelude.{◌≡◌, ◌≤◌, ◌==◌, ◌&&◌, ℕ, Bool, true, false, not, map, nat_lt, nat_le, Option, None, Some, Contains, IsTrue}
use Rattle.std.specs.List.{list_any}
use Rattle.std.specs.List.Sorted.{IsStrictlyIncreasing}
use Rattle.ld_base.specs.declared.act.Act.{Act}
use Rattle.ld_base.specs.declared.act.Act.TheVariants.{Take, Grow, Start, Drop, Late, Return, Release, Stop, Close, Control}
use Rattle.ld_machine.specs.Plan.{Executor, SharedIterations, PerVuIterations, ArrivalRate, owned_slots}
use Rattle.ld_machine.specs.State.{Level, Runs, StartsNothing, Halted, Busy, HeldUser, held_count, idle_users}
use Rattle.ld_machine.specs.Scenario.{Scenario, is_held_slot, least_open_item, slot_open_item}
use Rattle.ld_machine.specs.Together.{holds}

-- a level's number
abbrev pub level_number : Level → ℕ
level_number Runs = 0
level_number (StartsNothing _) = 1
level_number Halted = 2

-- an executor takes no more users at its begin than it may hold
abbrev pub users_fit : Executor → Bool
users_fit (ArrivalRate pre_allocated max_vus _) = nat_le pre_allocated max_vus
users_fit _ = true

-- One user more may be held on the slot: of `shared-iterations` and the arrival kinds while fewer are held than there
-- may be, of the others where the slot is owned and nobody has it.
abbrev pub executor_has_place : Executor → Scenario → ℕ → Bool
executor_has_place (SharedIterations users _) s slot = nat_lt (held_count s.share) users
executor_has_place (ArrivalRate _ max_vus _) s slot = nat_lt (held_count s.share) max_vus
executor_has_place executor s slot = list_any (λ k. k == slot) (owned_slots executor) && not (is_held_slot s slot)

-- the item that a user on this slot would start next: the least open one, of those of the slot where each has a slot,
-- and the slot where there are no items
abbrev pub executor_next_item : Executor → Scenario → ℕ → Option ℕ
executor_next_item (SharedIterations _ _) s slot = least_open_item s
executor_next_item (ArrivalRate _ _ _) s slot = least_open_item s
executor_next_item (PerVuIterations _ items) s slot = slot_open_item s items slot
executor_next_item _ s slot = Some slot

-- the user comes to the scenario on this slot: there are at most 1,000 users, numbered from 1, and the scenario doesn't
-- hold it, and has a place for it
pub record IsNewcomer (s : Scenario) (user slot : ℕ) : Type 0 where
  pub some : 1 ≤ user
  pub few : user ≤ 1000
  pub fresh : holds user s.share ≡ false
  pub place : IsTrue (executor_has_place s.part.executor s slot)

-- the scenario holds this user, which is idle
abbrev pub IsIdleOf : Scenario → ℕ → Type 0
IsIdleOf s user = (h : HeldUser) × Contains (idle_users s.share) h × (h.user ≡ user)

-- the user is idle, and would start this item next
abbrev pub IsStarter : Scenario → ℕ → ℕ → Type 0
IsStarter s user item =
    (h : HeldUser) × Contains (idle_users s.share) h × (h.user ≡ user) × (executor_next_item s.part.executor s h.slot ≡ Some item)

-- the scenario holds this user, which plays the item
abbrev pub IsPlayerOf : Scenario → ℕ → ℕ → Type 0
IsPlayerOf s user item =
    (h : HeldUser) × Contains s.share.held h × (h.user ≡ user) × ((thread : ℕ) × (until : ℕ) × (h.condition ≡ Busy thread item until))

-- The scenario may be told of an act of its own, or of a control: of one that it wished, on a user that comes to it, is
-- idle or plays the item; of the Return of an iteration under way; and of each Stop, Close and Control.
abbrev pub MayBeTold : Scenario → Act → Type 0
MayBeTold s (Take n user slot) = IsNewcomer s user slot
MayBeTold s (Grow n user slot) = IsNewcomer s user slot
MayBeTold s (Start n user item until) = IsStarter s user item
MayBeTold s (Drop n item) = least_open_item s ≡ Some item
MayBeTold s (Late n item) = least_open_item s ≡ Some item
MayBeTold s (Return n user item outcome tally) = IsPlayerOf s user item
MayBeTold s (Release n user) = IsIdleOf s user
MayBeTold s (Stop n) = Unit {0}
MayBeTold s (Close n) = Unit {0}
MayBeTold s (Control command) = Unit {0}

-- the held users stand in order of their numbers, each once
abbrev pub IsHeldInOrder : Scenario → Type 0
IsHeldInOrder s = IsStrictlyIncreasing (map (λ (h : HeldUser). h.user) s.share.held)

-- the user that an act brings to its scenario, if it brings one
abbrev pub newcomer_of : Act → Option ℕ
newcomer_of (Take n user slot) = Some user
newcomer_of (Grow n user slot) = Some user
newcomer_of _ = None
