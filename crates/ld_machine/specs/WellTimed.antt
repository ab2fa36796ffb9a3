-- Plans whose moments fit each other.
use Rattle.std.specs.Prelude.{◌<◌, ◌≤◌, List, [], Contains, flat_map}
use Rattle.ld_machine.specs.Moment.{last_moment}
use Rattle.ld_machine.specs.Plan.{Interval, RampingSlot, Arrival, Executor, RampingVus, Part, Plan, off_moment, due_moment}
use Rattle.ld_machine.specs.Scenario.{executor_arrivals}

-- the intervals in which the slots of `ramping-vus` are on
abbrev pub executor_intervals : Executor → List Interval
executor_intervals (RampingVus _ slots) = flat_map (λ (r : RampingSlot). r.intervals) slots
executor_intervals _ = []

-- a scenario begins no later than it ends, and ends no later than the last moment; its arrivals are due
-- before its end; and its slots go off no later than that
pub record IsWellTimed (part : Part) : Type 0 where
  pub begins : part.begin ≤ part.end
  pub ends : part.end ≤ last_moment
  pub due : (arrival : Arrival) → Contains (executor_arrivals part.executor) arrival → due_moment part arrival < part.end
  pub off : (interval : Interval) → Contains (executor_intervals part.executor) interval → off_moment part interval ≤ part.end

-- each scenario is well timed
abbrev pub WellTimed : Plan → Type 0
WellTimed plan = (part : Part) → Contains plan.parts part → IsWellTimed part
