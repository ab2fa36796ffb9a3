use Rattle.std.proofs.Common.{◌≡◌, ◌<◌, ◌≤◌, ◌-◌, ℕ, Some, length, slice_get}
use Rattle.ld_machine.specs.Moment.{moment_after}
use Rattle.ld_ramping.specs.declared.interval.Interval.{Interval}
use Rattle.ld_ramping.proofs.turn_places.place.Given as goal

abbrev pub invariant-intervals : goal.invariant-intervals
invariant-intervals l =
    (k : ℕ) (interval : Interval) → k < l.at → slice_get l.intervals k ≡ Some interval → moment_after l.begin interval.off ≤ l.reading

abbrev pub decreases-intervals : goal.decreases-intervals
decreases-intervals l = length l.intervals - l.at
