-- What the executor of a scenario says of the whole test, and what a position owns of it: a case for each executor.
use Rattle.std.specs.Prelude.{◌*◌, ℕ, List, None, Option, Some, map}
use Rattle.ld_stripe.specs.Striping.{Striping, owned_indices, share_at}
use Rattle.ld_arrival.specs.Ramp.{ramp_length}
use Rattle.ld_arrival.specs.Schedule.{owned_pairs, schedule}
use Rattle.ld_arrival.specs.Timetable.{Timetable, Constant, Ramping, planned_count}
use Rattle.ld_machine.specs.Plan as machine
use Rattle.ld_machine.specs.SlotItems.{items_of_slots}
use Rattle.ld_options.specs.declared.executor.Executor.{Executor}
use Rattle.ld_options.specs.declared.executor.Executor.TheVariants.{SharedIterations, PerVuIterations, ConstantVus, ConstantArrivals, RampingArrivals}
use Rattle.ld_plan.specs.PlanView.{arrival_of}

-- ---- the whole test

-- how long its iterations begin, from the scenario's begin
abbrev pub length_of : Executor → ℕ
length_of (SharedIterations vus iterations max_duration) = max_duration
length_of (PerVuIterations vus iterations max_duration) = max_duration
length_of (ConstantVus vus duration) = duration
length_of (ConstantArrivals rate unit duration pre max) = duration
length_of (RampingArrivals start_rate unit stages pre max) = ramp_length stages

-- when its arrivals are due, where it has arrivals
abbrev pub timetable_of : Executor → Option Timetable
timetable_of (SharedIterations vus iterations max_duration) = None
timetable_of (PerVuIterations vus iterations max_duration) = None
timetable_of (ConstantVus vus duration) = None
timetable_of (ConstantArrivals rate unit duration pre max) = Some (Constant rate unit duration)
timetable_of (RampingArrivals start_rate unit stages pre max) = Some (Ramping start_rate unit stages)

-- how many users are made before the scenario begins
abbrev pub pre_of : Executor → ℕ
pre_of (SharedIterations vus iterations max_duration) = vus
pre_of (PerVuIterations vus iterations max_duration) = vus
pre_of (ConstantVus vus duration) = vus
pre_of (ConstantArrivals rate unit duration pre max) = pre
pre_of (RampingArrivals start_rate unit stages pre max) = pre

-- how many users there may be
abbrev pub max_of : Executor → ℕ
max_of (SharedIterations vus iterations max_duration) = vus
max_of (PerVuIterations vus iterations max_duration) = vus
max_of (ConstantVus vus duration) = vus
max_of (ConstantArrivals rate unit duration pre max) = max
max_of (RampingArrivals start_rate unit stages pre max) = max

-- how many items it has
abbrev pub whole_count : Executor → ℕ
whole_count (SharedIterations vus iterations max_duration) = iterations
whole_count (PerVuIterations vus iterations max_duration) = vus * iterations
whole_count (ConstantVus vus duration) = 0
whole_count (ConstantArrivals rate unit duration pre max) = planned_count (Constant rate unit duration)
whole_count (RampingArrivals start_rate unit stages pre max) = planned_count (Ramping start_rate unit stages)

-- how many slots it has
abbrev pub slot_count : Executor → ℕ
slot_count (SharedIterations vus iterations max_duration) = 0
slot_count (PerVuIterations vus iterations max_duration) = vus
slot_count (ConstantVus vus duration) = vus
slot_count (ConstantArrivals rate unit duration pre max) = 0
slot_count (RampingArrivals start_rate unit stages pre max) = 0

-- ---- what position j owns, as the machine has it

-- of shared iterations so many users, and the items that go to it
abbrev pub shared_iterations : ℕ → ℕ → List ℕ → ℕ → machine.Executor
shared_iterations users iterations owners j = machine.SharedIterations users (owned_indices owners j iterations)

-- so many iterations on each of its slots
abbrev pub slot_iterations : ℕ → List ℕ → machine.Executor
slot_iterations iterations slots = machine.PerVuIterations slots (items_of_slots iterations slots)

-- so many users before the begin and at most, and of a timetable's arrivals those that go to it
abbrev pub arrival_rate : ℕ → ℕ → Timetable → List ℕ → ℕ → machine.Executor
arrival_rate pre max timetable owners j = machine.ArrivalRate pre max (map arrival_of (owned_pairs owners j (schedule timetable)))

-- of an executor, where the items go to these owners, and the users and the slots are striped so
abbrev pub owned_executor : Executor → List ℕ → Striping → ℕ → machine.Executor
owned_executor (SharedIterations vus iterations max_duration) owners striping j =
    shared_iterations (share_at striping.owners j vus) iterations owners j
owned_executor (PerVuIterations vus iterations max_duration) owners striping j =
    slot_iterations iterations (owned_indices striping.owners j vus)
owned_executor (ConstantVus vus duration) owners striping j = machine.ConstantVus (owned_indices striping.owners j vus)
owned_executor (ConstantArrivals rate unit duration pre max) owners striping j =
    arrival_rate (share_at striping.owners j pre) (share_at striping.owners j max) (Constant rate unit duration) owners j
owned_executor (RampingArrivals start_rate unit stages pre max) owners striping j =
    arrival_rate (share_at striping.owners j pre) (share_at striping.owners j max) (Ramping start_rate unit stages) owners j
