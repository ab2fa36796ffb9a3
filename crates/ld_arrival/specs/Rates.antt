-- The timetable of rates of either kind, and what `Arrivals` keeps beside it.
use Rattle.std.specs.Prelude.{◌≡◌, ◌<◌, ◌≤◌, ◌↔◌, ℕ}
use Rattle.ld_arrival.specs.Timetable.{Timetable, IsPlanned, planned_count}
use Rattle.ld_arrival.specs.Limits.{IsWithinLimits, most_arrivals}
use Rattle.ld_arrival.specs.ConstantRate as constant_rate
use Rattle.ld_arrival.specs.RampingRate as ramping_rate
use Rattle.ld_arrival.specs.declared.rates.Rates.{Rates}
use Rattle.ld_arrival.specs.declared.rates.Rates.TheVariants.{Constant, Ramping}

abbrev pub timetable_of : Rates → Timetable
timetable_of (Constant rate) = constant_rate.timetable_of rate
timetable_of (Ramping rate) = ramping_rate.timetable_of rate

-- So many arrivals of the timetable are planned: those below this number. The timetable and the number
-- are within the limits.
pub record IsCounted (timetable : Timetable) (count : ℕ) : Type 0 where
  pub limits : IsWithinLimits timetable
  pub counted : count ≡ planned_count timetable
  pub planned : (k : ℕ) → IsPlanned timetable k ↔ (k < count)
  pub few : count ≤ most_arrivals
