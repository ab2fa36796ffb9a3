-- The plan of one instance: what it owns of a test, as plain data.
use Rattle.std.specs.Prelude.{ℕ, Bool, true, false, List, [], map, min, nat_lt, if◌then◌else◌}
use Rattle.ld_base.specs.declared.metric.NameSpec.{NameSpec}
use Rattle.ld_machine.specs.Moment.{moment_after}

-- a time in which a slot is on, from `on` up to and without `off`, both counted from the scenario's begin
pub record Interval : Type 0 where
  pub on : ℕ
  pub off : ℕ

-- a slot of `ramping-vus`, with its intervals in rising order
pub record RampingSlot : Type 0 where
  pub slot : ℕ
  pub intervals : List Interval

-- an iteration of `per-vu-iterations`, and the slot that it belongs to
pub record SlotItem : Type 0 where
  pub item : ℕ
  pub slot : ℕ

-- a planned arrival, and its moment, counted from the scenario's begin
pub record Arrival : Type 0 where
  pub item : ℕ
  pub moment : ℕ

-- an executor with its numbers, and with the users or slots and the items that the instance owns,
-- slots and items in rising order
pub data Executor : Type 0 where
  SharedIterations : (users : ℕ) (items : List ℕ) → Executor
  PerVuIterations : (slots : List ℕ) (items : List SlotItem) → Executor
  ConstantVus : (slots : List ℕ) → Executor
  RampingVus : (ramp_grace : ℕ) (slots : List RampingSlot) → Executor
  -- `constant-arrival-rate` and `ramping-arrival-rate`
  ArrivalRate : (pre_allocated max_vus : ℕ) (arrivals : List Arrival) → Executor
  ExternallyControlled : (vus max_vus : ℕ) (slots : List ℕ) → Executor

-- one scenario's part of the plan: its begin and its regular end, its grace, the sample room of its
-- script, how many items the whole test has of it, and its executor
pub record Part : Type 0 where
  pub begin : ℕ
  pub end : ℕ
  pub grace : ℕ
  pub sample_room : ℕ
  pub whole_items : ℕ
  pub executor : Executor

-- an instance's plan: the parts of all scenarios, how many users are made at the opening and how
-- many there may be, how many entries and how many samples a history may have, and the test's names
pub record Plan : Type 0 where
  pub parts : List Part
  pub planned : ℕ
  pub limit : ℕ
  pub entry_limit : ℕ
  pub names : List NameSpec

-- the hard moment of a scenario: its grace behind its end
abbrev pub hard_moment : Part → ℕ
hard_moment part = moment_after part.end part.grace

-- when an interval begins and ends, counted from the run's start
abbrev pub on_moment : Part → Interval → ℕ
on_moment part interval = moment_after part.begin interval.on

abbrev pub off_moment : Part → Interval → ℕ
off_moment part interval = moment_after part.begin interval.off

-- the hard moment of an interval: where it goes off before the scenario's end, the ramp's grace
-- behind that, but at most the scenario's hard moment; else the scenario's hard moment
abbrev pub interval_hard_moment : Part → ℕ → Interval → ℕ
interval_hard_moment part ramp_grace interval =
    if nat_lt (off_moment part interval) part.end
    then min (moment_after (off_moment part interval) ramp_grace) (hard_moment part)
    else hard_moment part

-- when an arrival is due, counted from the run's start
abbrev pub due_moment : Part → Arrival → ℕ
due_moment part arrival = moment_after part.begin arrival.moment

-- the items that an instance owns of a scenario, in rising order
abbrev pub owned_items : Executor → List ℕ
owned_items (SharedIterations _ items) = items
owned_items (PerVuIterations _ items) = map (λ i. i.item) items
owned_items (ArrivalRate _ _ arrivals) = map (λ a. a.item) arrivals
owned_items _ = []

-- the slots that an instance owns of a scenario, in rising order
abbrev pub owned_slots : Executor → List ℕ
owned_slots (PerVuIterations slots _) = slots
owned_slots (ConstantVus slots) = slots
owned_slots (RampingVus _ slots) = map (λ s. s.slot) slots
owned_slots (ExternallyControlled _ _ slots) = slots
owned_slots _ = []

-- the executor is `externally-controlled`
abbrev pub is_external : Executor → Bool
is_external (ExternallyControlled _ _ _) = true
is_external _ = false
