-- When an entry may drop an item or count it late, said by itself.
use Rattle.std.specs.Prelude.{ℕ, Bool, true, false, not, ◌&&◌, ◌||◌, ◌==◌, nat_le, List, [], ◌∷◌, find, is_some, slice_get, IsTrue}
use Rattle.std.specs.Option.{option_map_or}
use Rattle.ld_base.specs.declared.act.Act.{Act}
use Rattle.ld_base.specs.declared.act.Act.TheVariants.{Drop, Late}
use Rattle.ld_base.specs.declared.entry.Entry.{Entry}
use Rattle.ld_machine.specs.Plan.{Arrival, Executor, SharedIterations, PerVuIterations, ArrivalRate, Plan}
use Rattle.ld_machine.specs.State.{State, opening, idle_users, held_count, free_users}
use Rattle.ld_machine.specs.Scenario.{Scenario, first_of, has_ended, is_due}
use Rattle.ld_machine.specs.Moves.{scenarios}
use Rattle.ld_machine.specs.Effect.{after_entry}

-- the arrival's moment is at or before t
abbrev pub is_item_due : Scenario → List Arrival → ℕ → ℕ → Bool
is_item_due s arrivals item t = option_map_or (is_due s t) (find (λ (a : Arrival). a.item == item) arrivals) false

-- nobody could play an arrival: no idle user is held, and either as many are held as may be, or no
-- user is free and none can be made
abbrev pub nobody_for_arrival : Plan → State → Scenario → ℕ → Bool
nobody_for_arrival plan state s max_vus =
    not (is_some (first_of (idle_users s.share)))
    && (nat_le max_vus (held_count s.share)
    || (not (is_some (first_of (free_users state))) && (state.made == plan.limit)))

-- an item of the scenario may be dropped at t: an arrival that is due, before the end, where nobody
-- could play it; an iteration at the end or behind it
abbrev pub executor_drop_allowed : Executor → Plan → State → Scenario → ℕ → ℕ → Bool
executor_drop_allowed (ArrivalRate _ max_vus arrivals) plan state s item t =
    is_item_due s arrivals item t && not (has_ended s t) && nobody_for_arrival plan state s max_vus
executor_drop_allowed (SharedIterations _ _) plan state s item t = has_ended s t
executor_drop_allowed (PerVuIterations _ _) plan state s item t = has_ended s t
executor_drop_allowed _ plan state s item t = false

-- an act at t, if it drops an item or counts it late, is allowed to
abbrev pub drop_or_late_allowed : Plan → State → Act → ℕ → Bool
drop_or_late_allowed plan state (Drop n item) t =
    option_map_or (λ (s : Scenario). executor_drop_allowed s.part.executor plan state s item t) (slice_get (scenarios plan state) n) false
drop_or_late_allowed plan state (Late n item) t = option_map_or (λ s. has_ended s t) (slice_get (scenarios plan state) n) false
drop_or_late_allowed plan state _ t = true

-- each of the entries is allowed to drop or to count late what it does, in the state before it
abbrev pub drops_allowed_from : Plan → State → List Entry → Bool
drops_allowed_from plan state [] = true
drops_allowed_from plan state (entry ∷ rest) =
    drop_or_late_allowed plan state entry.act entry.reading && drops_allowed_from plan (after_entry plan state entry) rest

-- nothing is dropped in the history while it could be played, and nothing is late before the end
abbrev pub drops_allowed : Plan → List Entry → Bool
drops_allowed plan history = drops_allowed_from plan (opening plan) history

abbrev pub DropsAllowed : Plan → List Entry → Type 0
DropsAllowed plan history = IsTrue (drops_allowed plan history)
