use Rattle.std.proofs.Common.{◌-◌, ◌*◌, ◌/◌, ◌<◌, ◌≤◌, ℕ}
use Rattle.ld_arrival.specs.Timetable.{IsPlanned}
use Rattle.ld_arrival.specs.RampStage.{most_wanted}
use Rattle.ld_arrival.specs.RampingRate.{timetable_of}
use Rattle.ld_arrival.proofs.ramping_rate.RampingRate.count.Given as goal

-- all arrivals below `low` are planned, and none from `high` on
abbrev pub invariant-loop-low : goal.invariant-loop-low
invariant-loop-low l =
    (l.low ≤ l.high) × (l.high ≤ most_wanted / (2 * l.self.unit))
    × ((k : ℕ) → k < l.low → IsPlanned (timetable_of l.self) k)
    × ((k : ℕ) → l.high ≤ k → ¬ IsPlanned (timetable_of l.self) k)

abbrev pub decreases-loop-low : goal.decreases-loop-low
decreases-loop-low l = l.high - l.low
