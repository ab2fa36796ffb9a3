-- What an executor says, and what a position owns of it: a case for each executor.
use Rattle.std.proofs.Common.{◌≡◌, ◌<◌, ◌≤◌, ◌/◌, ◌∙◌, ◌==◌, inl, inr, ℕ, List, [], false, cond, map, filter, arith, ap, refl, subst}
use Rattle.std.specs.Prelude.{All, Any, Contains, IsTrue, Some, if◌then◌else◌, ◌-◌}
use Rattle.std.specs.List.{range_with_len}
use Rattle.std.proofs.lemmas.Option.{none-some, same_Some}
use Rattle.ld_stripe.specs.Striping.{Striping, owned_indices, owner_at, share_at}
use Rattle.ld_base.specs.declared.stage.Stage.{Stage}
use Rattle.ld_arrival.specs.Limits.{IsWithinLimits}
use Rattle.ld_arrival.specs.Schedule.{owned_pairs}
use Rattle.ld_arrival.specs.Timetable.{Constant, Ramping, Timetable, planned_count}
use Rattle.ld_machine.specs.Plan.{Arrival, Part, hard_moment, is_external, owned_items, owned_slots}
use Rattle.ld_machine.specs.Requirement.{executor_extra, executor_need, is_before, most_owned_users, owned_users}
use Rattle.ld_machine.specs.Scenario.{executor_arrivals}
use Rattle.ld_machine.specs.State.{Controls, executor_controls}
use Rattle.ld_machine.specs.Told.{users_fit}
use Rattle.ld_machine.specs.WellTimed.{executor_intervals}
use Rattle.ld_options.specs.Ranges.{AreArrivalsInRange, AreRampingArrivalsInRange, IsInRange, greatest_rate, longest}
use Rattle.ld_options.specs.declared.executor.Executor.{Executor}
use Rattle.ld_options.specs.declared.executor.Executor.TheVariants.{SharedIterations, PerVuIterations, ConstantVus, ConstantArrivals, RampingArrivals}
use Rattle.ld_plan.specs.Executor.{length_of, max_of, owned_executor, pre_of, slot_count, timetable_of, whole_count}
use Rattle.ld_plan.specs.PlanView.{arrival_of, schedule_of}
use Rattle.ld_plan.proofs.OwnedLemmas.{arrival_items, indices_length, owned_planned}
use Rattle.ld_plan.proofs.SlotItemsLemmas.{items_of_owned_slots}
use Rattle.ld_plan.proofs.StripingLemmas.{IsSpread, owner_inside, share_rises}

-- ---- the whole test

-- no target is over the limit, where all are within it
none_fast : (stages : List Stage) → All (λ (stage : Stage). stage.target ≤ greatest_rate) stages → Any (λ (stage : Stage). greatest_rate < stage.target) stages → ⊥
none_fast stages within fast =
    let small = subst (λ (stage : Stage). stage.target ≤ greatest_rate) fast.3 (within fast.0 fast.1 fast.2) in
    let over = fast.4 in
    omega arith

-- arrivals whose numbers are in their ranges: the timetable is within the limits
pub arrivals_within : (rate unit duration pre max : ℕ) → AreArrivalsInRange rate unit duration pre max → IsWithinLimits (Constant rate unit duration)
arrivals_within rate unit duration pre max ranges =
    let rates = ranges.rates in
    let units = ranges.units in
    let durations = ranges.durations in
    let rate_least = rates.at_least in
    let rate_most = rates.at_most in
    let unit_least = units.at_least in
    let unit_most = units.at_most in
    let duration_least = durations.at_least in
    let duration_most = durations.at_most in
    record {
      rate = λ bad. elim bad [ inl none ↦ absurd (omega arith) | inr over ↦ absurd (omega arith) ];
      duration = λ bad. elim bad [
        | inl unit_bad ↦ elim unit_bad [ inl none ↦ absurd (omega arith) | inr over ↦ absurd (omega arith) ]
        | inr duration_bad ↦ elim duration_bad [ inl none ↦ absurd (omega arith) | inr over ↦ absurd (omega arith) ]
      ];
    }

-- and where they ramp
pub ramp_within : (start_rate unit : ℕ) (stages : List Stage) (pre max : ℕ) → AreRampingArrivalsInRange start_rate unit stages pre max →
    IsWithinLimits (Ramping start_rate unit stages)
ramp_within start_rate unit stages pre max ranges =
    let rates = ranges.rates in
    let units = ranges.units in
    let in_range = ranges.stages_in_range in
    let rate_most = rates.at_most in
    let unit_least = units.at_least in
    let unit_most = units.at_most in
    let together = in_range.together in
    record {
      rate = λ bad. elim bad [
        | inl over ↦ absurd (omega arith)
        | inr fast ↦ absurd (none_fast stages in_range.targets fast)
      ];
      duration = λ bad. elim bad [
        | inl unit_bad ↦ elim unit_bad [ inl none ↦ absurd (omega arith) | inr over ↦ absurd (omega arith) ]
        | inr long ↦ absurd (omega arith)
      ];
    }

pub within_limits : (e : Executor) (t : Timetable) → IsInRange e → timetable_of e ≡ Some t → IsWithinLimits t
within_limits (SharedIterations vus iterations max_duration) t ranges is = absurd (none-some t is)
within_limits (PerVuIterations vus iterations max_duration) t ranges is = absurd (none-some t is)
within_limits (ConstantVus vus duration) t ranges is = absurd (none-some t is)
within_limits (ConstantArrivals rate unit duration pre max) t ranges is =
    subst IsWithinLimits (same_Some (Constant rate unit duration) t is) (arrivals_within rate unit duration pre max ranges)
within_limits (RampingArrivals start_rate unit stages pre max) t ranges is =
    subst IsWithinLimits (same_Some (Ramping start_rate unit stages) t is) (ramp_within start_rate unit stages pre max ranges)

-- some user may be there, at most 1,000, and no more are made before than there may be
pub some_users : (e : Executor) → IsInRange e → 1 ≤ max_of e
some_users (SharedIterations vus iterations max_duration) ranges = let users = ranges.users in users.at_least
some_users (PerVuIterations vus iterations max_duration) ranges = let users = ranges.users in users.at_least
some_users (ConstantVus vus duration) ranges = let users = ranges.users in users.at_least
some_users (ConstantArrivals rate unit duration pre max) ranges = let users = ranges.users in users.at_least
some_users (RampingArrivals start_rate unit stages pre max) ranges = let users = ranges.users in users.at_least

pub few_users : (e : Executor) → IsInRange e → max_of e ≤ 1000
few_users (SharedIterations vus iterations max_duration) ranges = let users = ranges.users in users.at_most
few_users (PerVuIterations vus iterations max_duration) ranges = let users = ranges.users in users.at_most
few_users (ConstantVus vus duration) ranges = let users = ranges.users in users.at_most
few_users (ConstantArrivals rate unit duration pre max) ranges = let users = ranges.users in users.at_most
few_users (RampingArrivals start_rate unit stages pre max) ranges = let users = ranges.users in users.at_most

pub pre_within : (e : Executor) → IsInRange e → pre_of e ≤ max_of e
pre_within (SharedIterations vus iterations max_duration) ranges = omega arith
pre_within (PerVuIterations vus iterations max_duration) ranges = omega arith
pre_within (ConstantVus vus duration) ranges = omega arith
pre_within (ConstantArrivals rate unit duration pre max) ranges = ranges.above_planned
pre_within (RampingArrivals start_rate unit stages pre max) ranges = ranges.above_planned

-- a scenario lasts not too long
pub lasts_within : (e : Executor) → IsInRange e → length_of e ≤ longest
lasts_within (SharedIterations vus iterations max_duration) ranges = let durations = ranges.durations in durations.at_most
lasts_within (PerVuIterations vus iterations max_duration) ranges = let durations = ranges.durations in durations.at_most
lasts_within (ConstantVus vus duration) ranges = let durations = ranges.durations in durations.at_most
lasts_within (ConstantArrivals rate unit duration pre max) ranges = let durations = ranges.durations in durations.at_most
lasts_within (RampingArrivals start_rate unit stages pre max) ranges = let stages_in_range = ranges.stages_in_range in stages_in_range.together

-- ---- the users that a position owns

-- its shares of the users
pub users_owned : (e : Executor) (owners : List ℕ) (striping : Striping) (j : ℕ) →
    owned_users (owned_executor e owners striping j) ≡ share_at striping.owners j (pre_of e)
users_owned (SharedIterations vus iterations max_duration) owners striping j = refl
users_owned (PerVuIterations vus iterations max_duration) owners striping j = indices_length striping.owners j vus
users_owned (ConstantVus vus duration) owners striping j = indices_length striping.owners j vus
users_owned (ConstantArrivals rate unit duration pre max) owners striping j = refl
users_owned (RampingArrivals start_rate unit stages pre max) owners striping j = refl

pub most_users_owned : (e : Executor) (owners : List ℕ) (striping : Striping) (j : ℕ) →
    most_owned_users (owned_executor e owners striping j) ≡ share_at striping.owners j (max_of e)
most_users_owned (SharedIterations vus iterations max_duration) owners striping j = refl
most_users_owned (PerVuIterations vus iterations max_duration) owners striping j = indices_length striping.owners j vus
most_users_owned (ConstantVus vus duration) owners striping j = indices_length striping.owners j vus
most_users_owned (ConstantArrivals rate unit duration pre max) owners striping j = refl
most_users_owned (RampingArrivals start_rate unit stages pre max) owners striping j = refl

-- so many it plans at a moment, and so many it may add
pub users_needed : (e : Executor) (owners : List ℕ) (striping : Striping) (j : ℕ) (part : Part) (t : ℕ) →
    executor_need (owned_executor e owners striping j) part t
    ≡ (if is_before part (hard_moment part) t then share_at striping.owners j (pre_of e) else 0)
users_needed (SharedIterations vus iterations max_duration) owners striping j part t = refl
users_needed (PerVuIterations vus iterations max_duration) owners striping j part t =
    ap (λ n. cond (is_before part (hard_moment part) t) n 0) (indices_length striping.owners j vus)
users_needed (ConstantVus vus duration) owners striping j part t =
    ap (λ n. cond (is_before part (hard_moment part) t) n 0) (indices_length striping.owners j vus)
users_needed (ConstantArrivals rate unit duration pre max) owners striping j part t = refl
users_needed (RampingArrivals start_rate unit stages pre max) owners striping j part t = refl

pub users_added : (e : Executor) (owners : List ℕ) (striping : Striping) (j : ℕ) (part : Part) (t : ℕ) →
    executor_extra (owned_executor e owners striping j) part t
    ≡ (if is_before part (hard_moment part) t then share_at striping.owners j (max_of e) - share_at striping.owners j (pre_of e) else 0)
users_added (SharedIterations vus iterations max_duration) owners striping j part t = refl
users_added (PerVuIterations vus iterations max_duration) owners striping j part t =
    ap (λ n. cond (is_before part (hard_moment part) t) (n - n) 0) (indices_length striping.owners j vus)
users_added (ConstantVus vus duration) owners striping j part t =
    ap (λ n. cond (is_before part (hard_moment part) t) (n - n) 0) (indices_length striping.owners j vus)
users_added (ConstantArrivals rate unit duration pre max) owners striping j part t = refl
users_added (RampingArrivals start_rate unit stages pre max) owners striping j part t = refl

-- it takes no more users at the begin than it may hold
pub users_within : (e : Executor) (owners : List ℕ) (striping : Striping) (j : ℕ) → IsInRange e → IsTrue (users_fit (owned_executor e owners striping j))
users_within (SharedIterations vus iterations max_duration) owners striping j ranges = refl
users_within (PerVuIterations vus iterations max_duration) owners striping j ranges = refl
users_within (ConstantVus vus duration) owners striping j ranges = refl
users_within (ConstantArrivals rate unit duration pre max) owners striping j ranges =
    let rises = share_rises striping.owners j pre max ranges.above_planned in
    grind arith
users_within (RampingArrivals start_rate unit stages pre max) owners striping j ranges =
    let rises = share_rises striping.owners j pre max ranges.above_planned in
    grind arith

-- ---- its items and its slots

-- the arrivals that go to it
pub arrivals_owned : (e : Executor) (owners : List ℕ) (striping : Striping) (j : ℕ) →
    executor_arrivals (owned_executor e owners striping j) ≡ map arrival_of (owned_pairs owners j (schedule_of (timetable_of e)))
arrivals_owned (SharedIterations vus iterations max_duration) owners striping j = refl
arrivals_owned (PerVuIterations vus iterations max_duration) owners striping j = refl
arrivals_owned (ConstantVus vus duration) owners striping j = refl
arrivals_owned (ConstantArrivals rate unit duration pre max) owners striping j = refl
arrivals_owned (RampingArrivals start_rate unit stages pre max) owners striping j = refl

-- nothing is in no arrivals
none_in : (a : Arrival) → Contains [] a → ⊥
none_in a has = let below : has.0 < 0 = has.1 in omega arith

-- they are due while the scenario lasts
pub arrivals_in_time : (e : Executor) (owners : List ℕ) (striping : Striping) (j : ℕ) → IsInRange e →
    (a : Arrival) → Contains (executor_arrivals (owned_executor e owners striping j)) a → a.moment < length_of e
arrivals_in_time (SharedIterations vus iterations max_duration) owners striping j ranges a has = absurd (none_in a has)
arrivals_in_time (PerVuIterations vus iterations max_duration) owners striping j ranges a has = absurd (none_in a has)
arrivals_in_time (ConstantVus vus duration) owners striping j ranges a has = absurd (none_in a has)
arrivals_in_time (ConstantArrivals rate unit duration pre max) owners striping j ranges a has =
    let limits = arrivals_within rate unit duration pre max ranges in
    let planned = owned_planned (Constant rate unit duration) owners j limits a has in
    let moment = planned.1 in
    let before = planned.0 in
    omega arith
arrivals_in_time (RampingArrivals start_rate unit stages pre max) owners striping j ranges a has =
    let limits = ramp_within start_rate unit stages pre max ranges in
    let planned = owned_planned (Ramping start_rate unit stages) owners j limits a has in
    let moment = planned.1 in
    let before = planned.0 in
    omega arith

-- to which position an item goes
abbrev pub item_owner : Executor → List ℕ → Striping → ℕ → ℕ
item_owner (SharedIterations vus iterations max_duration) owners striping x = owner_at owners x
item_owner (PerVuIterations vus iterations max_duration) owners striping x = owner_at striping.owners (x / iterations)
item_owner (ConstantVus vus duration) owners striping x = owner_at owners x
item_owner (ConstantArrivals rate unit duration pre max) owners striping x = owner_at owners x
item_owner (RampingArrivals start_rate unit stages pre max) owners striping x = owner_at owners x

pub item_owner_inside : (e : Executor) (items striping : Striping) (n x : ℕ) → IsSpread items n → IsSpread striping n →
    item_owner e items.owners striping x < n
item_owner_inside (SharedIterations vus iterations max_duration) items striping n x spread positions = owner_inside items n x spread
item_owner_inside (PerVuIterations vus iterations max_duration) items striping n x spread positions = owner_inside striping n (x / iterations) positions
item_owner_inside (ConstantVus vus duration) items striping n x spread positions = owner_inside items n x spread
item_owner_inside (ConstantArrivals rate unit duration pre max) items striping n x spread positions = owner_inside items n x spread
item_owner_inside (RampingArrivals start_rate unit stages pre max) items striping n x spread positions = owner_inside items n x spread

-- a position owns the items that go to it
pub items_owned : (e : Executor) (owners : List ℕ) (striping : Striping) (j : ℕ) → IsInRange e →
    owned_items (owned_executor e owners striping j) ≡ filter (λ x. item_owner e owners striping x == j) (range_with_len 0 (whole_count e))
items_owned (SharedIterations vus iterations max_duration) owners striping j ranges = refl
items_owned (PerVuIterations vus iterations max_duration) owners striping j ranges = items_of_owned_slots (owner_at striping.owners) j iterations vus
items_owned (ConstantVus vus duration) owners striping j ranges = refl
items_owned (ConstantArrivals rate unit duration pre max) owners striping j ranges =
    arrival_items (Constant rate unit duration) owners j (arrivals_within rate unit duration pre max ranges)
items_owned (RampingArrivals start_rate unit stages pre max) owners striping j ranges =
    arrival_items (Ramping start_rate unit stages) owners j (ramp_within start_rate unit stages pre max ranges)

-- where it has arrivals, these are the items
pub arrival_items_owned : (e : Executor) (owners : List ℕ) (striping : Striping) (j : ℕ) (t : Timetable) → IsInRange e → timetable_of e ≡ Some t →
    owned_items (owned_executor e owners striping j) ≡ owned_indices owners j (planned_count t)
arrival_items_owned (SharedIterations vus iterations max_duration) owners striping j t ranges is = absurd (none-some t is)
arrival_items_owned (PerVuIterations vus iterations max_duration) owners striping j t ranges is = absurd (none-some t is)
arrival_items_owned (ConstantVus vus duration) owners striping j t ranges is = absurd (none-some t is)
arrival_items_owned (ConstantArrivals rate unit duration pre max) owners striping j t ranges is =
    items_owned (ConstantArrivals rate unit duration pre max) owners striping j ranges
    ∙ ap (λ (u : Timetable). owned_indices owners j (planned_count u)) (same_Some (Constant rate unit duration) t is)
arrival_items_owned (RampingArrivals start_rate unit stages pre max) owners striping j t ranges is =
    items_owned (RampingArrivals start_rate unit stages pre max) owners striping j ranges
    ∙ ap (λ (u : Timetable). owned_indices owners j (planned_count u)) (same_Some (Ramping start_rate unit stages) t is)

-- a position owns the slots that go to it
pub slots_owned : (e : Executor) (owners : List ℕ) (striping : Striping) (j : ℕ) →
    owned_slots (owned_executor e owners striping j) ≡ owned_indices striping.owners j (slot_count e)
slots_owned (SharedIterations vus iterations max_duration) owners striping j = refl
slots_owned (PerVuIterations vus iterations max_duration) owners striping j = refl
slots_owned (ConstantVus vus duration) owners striping j = refl
slots_owned (ConstantArrivals rate unit duration pre max) owners striping j = refl
slots_owned (RampingArrivals start_rate unit stages pre max) owners striping j = refl

-- its slots have no intervals
pub intervals_owned : (e : Executor) (owners : List ℕ) (striping : Striping) (j : ℕ) → executor_intervals (owned_executor e owners striping j) ≡ []
intervals_owned (SharedIterations vus iterations max_duration) owners striping j = refl
intervals_owned (PerVuIterations vus iterations max_duration) owners striping j = refl
intervals_owned (ConstantVus vus duration) owners striping j = refl
intervals_owned (ConstantArrivals rate unit duration pre max) owners striping j = refl
intervals_owned (RampingArrivals start_rate unit stages pre max) owners striping j = refl

-- ---- nothing from outside

-- it isn't externally controlled, and sets no controls
pub not_external : (e : Executor) (owners : List ℕ) (striping : Striping) (j : ℕ) → is_external (owned_executor e owners striping j) ≡ false
not_external (SharedIterations vus iterations max_duration) owners striping j = refl
not_external (PerVuIterations vus iterations max_duration) owners striping j = refl
not_external (ConstantVus vus duration) owners striping j = refl
not_external (ConstantArrivals rate unit duration pre max) owners striping j = refl
not_external (RampingArrivals start_rate unit stages pre max) owners striping j = refl

pub no_controls : (e : Executor) (owners : List ℕ) (striping : Striping) (j : ℕ) (others : Controls) →
    executor_controls (owned_executor e owners striping j) others ≡ others
no_controls (SharedIterations vus iterations max_duration) owners striping j others = refl
no_controls (PerVuIterations vus iterations max_duration) owners striping j others = refl
no_controls (ConstantVus vus duration) owners striping j others = refl
no_controls (ConstantArrivals rate unit duration pre max) owners striping j others = refl
no_controls (RampingArrivals start_rate unit stages pre max) owners striping j others = refl
