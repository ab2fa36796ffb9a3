-- Plans as they are seen.
use Rattle.std.specs.Prelude.{ℕ, List, [], None, Option, Some}
use Rattle.ld_num.specs.declared.fraction.Frac.{Frac}
use Rattle.ld_arrival.specs.Timetable.{Timetable, planned_count}
use Rattle.ld_arrival.specs.Schedule.{schedule}
use Rattle.ld_machine.specs.Plan.{Arrival, Plan}
use Rattle.ld_options.specs.declared.options.Options.{Options}

-- a scenario of the whole test: its name, and when its arrivals are due, where it has arrivals
pub record Whole : Type 0 where
  pub name : List ℕ
  pub timetable : Option Timetable

-- the planned arrivals with their moments, and how many they are: none where there is no timetable
abbrev pub schedule_of : Option Timetable → List (ℕ × ℕ)
schedule_of None = []
schedule_of (Some timetable) = schedule timetable

abbrev pub arrival_count : Option Timetable → ℕ
arrival_count None = 0
arrival_count (Some timetable) = planned_count timetable

-- a plan as it is seen: what the instance owns, the position that it plays, the scenarios of the whole
-- test in order of their numbers, and the options and the sequence that it was made of
pub record PlanView : Type 0 where
  pub plan : Plan
  pub position : ℕ
  pub wholes : List Whole
  pub options : Options
  pub sequence : List Frac

-- an arrival with its moment
abbrev pub arrival_of : ℕ × ℕ → Arrival
arrival_of pair = record { item = pair.0; moment = pair.1 }
