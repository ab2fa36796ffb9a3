-- The timetable of a ramping rate.
use Rattle.ld_arrival.specs.Timetable.{Timetable, Ramping}
use Rattle.ld_arrival.specs.declared.ramping_rate.RampingRate.{RampingRate}

abbrev pub timetable_of : RampingRate → Timetable
timetable_of ramping = Ramping ramping.start_rate ramping.unit ramping.stages.items
