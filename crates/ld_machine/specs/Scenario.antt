-- One scenario of the pool: the cells of the table of acts, each for one reading.
use Rattle.std.specs.Prelude.{ℕ, Bool, true, false, not, ◌&&◌, ◌||◌, ◌==◌, nat_le, nat_lt, List, [], ◌∷◌, Option, None, Some, filter, find, option_map, is_some, if◌then◌else◌}
use Rattle.std.specs.List.{list_any}
use Rattle.std.specs.Option.{option_map_or}
use Rattle.ld_machine.specs.Moment.{moment_after}
use Rattle.ld_machine.specs.Plan.{Interval, RampingSlot, SlotItem, Arrival, Executor, SharedIterations, PerVuIterations, ConstantVus, RampingVus, ArrivalRate, ExternallyControlled, Part, hard_moment, on_moment, off_moment, interval_hard_moment, due_moment, owned_items, owned_slots}
use Rattle.ld_machine.specs.State.{Level, Runs, StartsNothing, HeldUser, Share, Controls, held_count}

-- one scenario as it stands: its part of the plan, its share of the state, and the controls
pub record Scenario : Type 0 where
  pub part : Part
  pub share : Share
  pub controls : Controls

-- ---- what the cells speak of

-- the first of a list
abbrev pub first_of : {A : Type 0} → List A → Option A
first_of [] = None
first_of (x ∷ _) = Some x

abbrev pub is_open : Scenario → Bool
is_open s = not s.share.closed

-- the level is 0
abbrev pub level_runs : Level → Bool
level_runs Runs = true
level_runs _ = false

abbrev pub runs : Scenario → Bool
runs s = is_open s && level_runs s.share.level

abbrev pub has_begun : Scenario → ℕ → Bool
has_begun s t = nat_le s.part.begin t

abbrev pub has_ended : Scenario → ℕ → Bool
has_ended s t = nat_le s.part.end t

-- the scenario is open, at level 0, and t is from its begin up to and without its end
abbrev pub is_live : Scenario → ℕ → Bool
is_live s t = runs s && has_begun s t && not (has_ended s t)

-- an owned item is open until it was started, dropped or counted late
abbrev pub is_open_item : Scenario → ℕ → Bool
is_open_item s item = not (list_any (λ k. k == item) s.share.ended)

abbrev pub open_items : Scenario → List ℕ
open_items s = filter (is_open_item s) (owned_items s.part.executor)

abbrev pub least_open_item : Scenario → Option ℕ
least_open_item s = first_of (open_items s)

abbrev pub has_open_item : Scenario → Bool
has_open_item s = is_some (least_open_item s)

-- of these items the least open one of a slot
abbrev pub slot_open_item : Scenario → List SlotItem → ℕ → Option ℕ
slot_open_item s items slot = option_map (λ i. i.item) (find (λ i. (i.slot == slot) && is_open_item s i.item) items)

abbrev pub slot_has_open_item : Scenario → List SlotItem → ℕ → Bool
slot_has_open_item s items slot = is_some (slot_open_item s items slot)

-- some held user has the slot
abbrev pub is_held_slot : Scenario → ℕ → Bool
is_held_slot s slot = list_any (λ (h : HeldUser). h.slot == slot) s.share.held

-- t is in the interval
abbrev pub is_within : Part → ℕ → Interval → Bool
is_within part t interval = nat_le (on_moment part interval) t && nat_lt t (off_moment part interval)

-- the interval of a slot of `ramping-vus` that t is in
abbrev pub interval_at : Part → List RampingSlot → ℕ → ℕ → Option Interval
interval_at part [] slot t = None
interval_at part (r ∷ rest) slot t =
    if r.slot == slot then find (is_within part t) r.intervals else interval_at part rest slot t

-- a slot of `ramping-vus` is on where t is in one of its intervals
abbrev pub is_slot_on : Scenario → List RampingSlot → ℕ → ℕ → Bool
is_slot_on s slots slot t = is_some (interval_at s.part slots slot t)

-- ---- Take, where a user is free

-- the slots that a user could take: of `shared-iterations` and the arrival kinds the number of users
-- held so far, of the others the owned slots
abbrev pub slots_to_take : Executor → Scenario → List ℕ
slots_to_take (SharedIterations _ _) s = held_count s.share ∷ []
slots_to_take (ArrivalRate _ _ _) s = held_count s.share ∷ []
slots_to_take executor s = owned_slots executor

abbrev pub executor_may_take : Executor → Scenario → ℕ → ℕ → Bool
executor_may_take (SharedIterations users _) s slot t = is_live s t && nat_lt (held_count s.share) users && has_open_item s
executor_may_take (PerVuIterations _ items) s slot t = is_live s t && not (is_held_slot s slot) && slot_has_open_item s items slot
executor_may_take (ConstantVus _) s slot t = is_live s t && not (is_held_slot s slot)
executor_may_take (RampingVus _ slots) s slot t = runs s && is_slot_on s slots slot t && not (is_held_slot s slot)
executor_may_take (ArrivalRate pre_allocated _ _) s slot t = is_live s t && nat_lt (held_count s.share) pre_allocated
executor_may_take (ExternallyControlled _ _ _) s slot t = is_live s t && nat_lt slot s.controls.vus && not (is_held_slot s slot)

-- a user may take the slot, if one is free
abbrev pub may_take : Scenario → ℕ → ℕ → Bool
may_take s slot t = executor_may_take s.part.executor s slot t

-- ---- Release of an idle user

abbrev pub executor_may_release : Executor → Scenario → ℕ → ℕ → Bool
executor_may_release (SharedIterations _ _) s slot t = has_ended s t || not (has_open_item s)
executor_may_release (PerVuIterations _ items) s slot t = has_ended s t || not (slot_has_open_item s items slot)
executor_may_release (ConstantVus _) s slot t = has_ended s t
executor_may_release (RampingVus _ slots) s slot t = not (is_slot_on s slots slot t)
executor_may_release (ArrivalRate _ _ _) s slot t = has_ended s t
executor_may_release (ExternallyControlled _ _ _) s slot t = has_ended s t || not (nat_lt slot s.controls.vus)

-- an idle user with this slot may be released: at level 0 as its executor says, else at any reading
abbrev pub may_release : Scenario → ℕ → ℕ → Bool
may_release s slot t = is_open s && (not (runs s) || executor_may_release s.part.executor s slot t)

-- ---- Start on an idle user, of the executors without arrivals

-- the value, where the test holds
abbrev pub where_holds : {A : Type 0} → Bool → Option A → Option A
where_holds test value = if test then value else None

abbrev pub executor_item_to_start : Executor → Scenario → ℕ → ℕ → Option ℕ
executor_item_to_start (SharedIterations _ _) s slot t = where_holds (is_live s t) (least_open_item s)
executor_item_to_start (PerVuIterations _ items) s slot t = where_holds (is_live s t) (slot_open_item s items slot)
executor_item_to_start (ConstantVus _) s slot t = where_holds (is_live s t) (Some slot)
executor_item_to_start (RampingVus _ slots) s slot t = where_holds (runs s && is_slot_on s slots slot t) (Some slot)
executor_item_to_start (ArrivalRate _ _ _) s slot t = None
executor_item_to_start (ExternallyControlled _ _ _) s slot t =
    where_holds (is_live s t && not s.controls.paused && nat_lt slot s.controls.vus) (Some slot)

-- the item that an idle user with this slot may start, if any; the kinds without items start the slot
abbrev pub item_to_start : Scenario → ℕ → ℕ → Option ℕ
item_to_start s slot t = executor_item_to_start s.part.executor s slot t

abbrev pub executor_until : Executor → Scenario → ℕ → ℕ → ℕ
executor_until (RampingVus ramp_grace slots) s slot t =
    option_map_or (interval_hard_moment s.part ramp_grace) (interval_at s.part slots slot t) (hard_moment s.part)
executor_until _ s slot t = hard_moment s.part

-- until when an iteration may last that starts with this slot: up to the scenario's hard moment, and
-- with `ramping-vus` up to that of the interval in which it starts
abbrev pub until_of : Scenario → ℕ → ℕ → ℕ
until_of s slot t = executor_until s.part.executor s slot t

-- ---- Drop of the executors with iterations

abbrev pub executor_item_to_drop : Executor → Scenario → ℕ → Option ℕ
executor_item_to_drop (SharedIterations _ _) s t = where_holds (runs s && has_ended s t) (least_open_item s)
executor_item_to_drop (PerVuIterations _ _) s t = where_holds (runs s && has_ended s t) (least_open_item s)
executor_item_to_drop _ s t = None

-- the iteration that may be dropped, if any
abbrev pub item_to_drop : Scenario → ℕ → Option ℕ
item_to_drop s t = executor_item_to_drop s.part.executor s t

-- ---- Stop and Close

abbrev pub level_may_stop : Level → ℕ → ℕ → Bool
level_may_stop (StartsNothing commanded) grace t = nat_le (moment_after commanded grace) t
level_may_stop _ grace t = false

-- the scenario may be halted: its grace is over since a stop was commanded
abbrev pub may_stop : Scenario → ℕ → Bool
may_stop s t = is_open s && level_may_stop s.share.level s.part.grace t

-- no user is held
abbrev pub holds_nobody : Scenario → Bool
holds_nobody s = held_count s.share == 0

abbrev pub executor_may_close : Executor → Scenario → ℕ → Bool
executor_may_close (SharedIterations _ _) s t = has_begun s t
executor_may_close (PerVuIterations _ _) s t = has_begun s t
executor_may_close _ s t = has_ended s t

-- the scenario may close: with no user held, and at level 0 with no open item and at its time
abbrev pub may_close : Scenario → ℕ → Bool
may_close s t =
    is_open s && holds_nobody s && (not (runs s) || (not (has_open_item s) && executor_may_close s.part.executor s t))

-- ---- Arrivals

abbrev pub executor_arrivals : Executor → List Arrival
executor_arrivals (ArrivalRate _ _ arrivals) = arrivals
executor_arrivals _ = []

-- the least open arrival
abbrev pub least_open_arrival : Scenario → Option Arrival
least_open_arrival s = find (λ a. is_open_item s a.item) (executor_arrivals s.part.executor)

abbrev pub is_due : Scenario → ℕ → Arrival → Bool
is_due s t arrival = nat_le (due_moment s.part arrival) t

-- the arrival that is to be answered, if any: the least open one at level 0, once it is due
abbrev pub due_arrival : Scenario → ℕ → Option Arrival
due_arrival s t = find (is_due s t) (option_map_or (λ a. a ∷ []) (where_holds (runs s) (least_open_arrival s)) [])

abbrev pub executor_max_vus : Executor → ℕ
executor_max_vus (ArrivalRate _ max_vus _) = max_vus
executor_max_vus _ = 0

-- an arrival scenario holds fewer users than it may
abbrev pub may_hold_more : Scenario → Bool
may_hold_more s = nat_lt (held_count s.share) (executor_max_vus s.part.executor)
