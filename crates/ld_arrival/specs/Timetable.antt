-- Timetables: which arrivals are planned, and when each is due, in nanoseconds from the scenario's begin.
use Rattle.std.specs.Prelude.{ℕ, ◌<◌, ◌+◌, ◌*◌, ◌/◌, List, filter, length, nat_lt}
use Rattle.std.specs.List.{range_with_len}
use Rattle.ld_base.specs.declared.stage.Stage.{Stage}
use Rattle.ld_arrival.specs.Ramp.{ramp_length, ramp_sum, reached_at}

-- How arrivals follow each other: at a constant rate, as many in each unit of time, for a duration; or at a rate that
-- goes from a start rate through the targets of stages.
pub data Timetable : Type 0 where
  Constant : (rate unit duration : ℕ) → Timetable
  Ramping : (start_rate unit : ℕ) (stages : List Stage) → Timetable

-- the moment at which arrival k, counted from 0, is due
abbrev pub moment_of : Timetable → ℕ → ℕ
moment_of (Constant rate unit duration) k = k * unit / rate
moment_of (Ramping start_rate unit stages) k = reached_at start_rate 0 (2 * unit * (k + 1)) stages

-- the moment at which the timetable ends
abbrev pub end_of : Timetable → ℕ
end_of (Constant rate unit duration) = duration
end_of (Ramping start_rate unit stages) = ramp_length stages

-- arrival k is planned: it is due before the end
abbrev pub IsPlanned : Timetable → ℕ → Type 0
IsPlanned timetable k = moment_of timetable k < end_of timetable

-- a number that no planned arrival of a timetable within the limits reaches
abbrev pub planned_below : Timetable → ℕ
planned_below (Constant rate unit duration) = duration * rate / unit + 1
planned_below (Ramping start_rate unit stages) = ramp_sum start_rate stages / (2 * unit) + 1

-- the planned arrivals, in order
unfoldable pub planned : Timetable → List ℕ
planned timetable =
    filter (λ k. nat_lt (moment_of timetable k) (end_of timetable)) (range_with_len 0 (planned_below timetable))

-- how many arrivals are planned
abbrev pub planned_count : Timetable → ℕ
planned_count timetable = length (planned timetable)
