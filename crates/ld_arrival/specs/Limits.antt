-- The limits of a timetable.
use Rattle.std.specs.Prelude.{◌≡◌, ◌<◌, ◌⊎◌, ℕ, Any}
use Rattle.ld_arrival.specs.Ramp.{ramp_length}
use Rattle.ld_arrival.specs.Timetable.{Timetable, Constant, Ramping}

-- arrivals in one unit of time
abbrev pub greatest_rate : ℕ
greatest_rate = 1000000

-- one day, in nanoseconds
abbrev pub greatest_unit : ℕ
greatest_unit = 86400000000000

-- thirty days, in nanoseconds
abbrev pub greatest_duration : ℕ
greatest_duration = 2592000000000000

-- the most arrivals that may be planned
abbrev pub most_arrivals : ℕ
most_arrivals = 400000

-- a constant rate is zero, or a rate is over the limit
abbrev pub HasBadRate : Timetable → Type 0
HasBadRate (Constant rate unit duration) = (rate ≡ 0) ⊎ (greatest_rate < rate)
HasBadRate (Ramping start_rate unit stages) = (greatest_rate < start_rate) ⊎ Any (λ stage. greatest_rate < stage.target) stages

-- the unit or a constant rate's duration is zero, or one of them or the length of all stages is over its limit
abbrev pub HasBadDuration : Timetable → Type 0
HasBadDuration (Constant rate unit duration) =
    ((unit ≡ 0) ⊎ (greatest_unit < unit)) ⊎ ((duration ≡ 0) ⊎ (greatest_duration < duration))
HasBadDuration (Ramping start_rate unit stages) =
    ((unit ≡ 0) ⊎ (greatest_unit < unit)) ⊎ (greatest_duration < ramp_length stages)

-- rates and durations are within the limits
pub record IsWithinLimits (timetable : Timetable) : Type 0 where
  pub rate : ¬ HasBadRate timetable
  pub duration : ¬ HasBadDuration timetable
