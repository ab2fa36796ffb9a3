-- When a timetable is refused, in the order in which it is looked at.
use Rattle.std.specs.Prelude.{◌≡◌, ◌<◌, ◌-◌, ◌^◌, min}
use Rattle.ld_arrival.specs.Timetable.{Timetable, planned_count}
use Rattle.ld_arrival.specs.Limits.{HasBadRate, HasBadDuration, IsWithinLimits, most_arrivals}
use Rattle.ld_arrival.specs.declared.fault.ArrivalFault.{ArrivalFault}
use Rattle.ld_arrival.specs.declared.fault.ArrivalFault.TheVariants.{RateRange, DurationRange, TooManyArrivals, Memory}

-- the timetable is refused with this fault; want of memory is no refusal of its own
abbrev pub IsRefusal : Timetable → ArrivalFault → Type 0
IsRefusal timetable RateRange = HasBadRate timetable
IsRefusal timetable DurationRange = (¬ HasBadRate timetable) × HasBadDuration timetable
IsRefusal timetable (TooManyArrivals n) =
    IsWithinLimits timetable
    × (most_arrivals < planned_count timetable)
    × (n ≡ min (planned_count timetable) (2 ^ 64 - 1))
IsRefusal timetable Memory = ⊥
