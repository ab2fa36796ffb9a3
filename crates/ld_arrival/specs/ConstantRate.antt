-- The timetable of a constant rate.
use Rattle.ld_arrival.specs.Timetable.{Timetable, Constant}
use Rattle.ld_arrival.specs.declared.constant_rate.ConstantRate.{ConstantRate}

abbrev pub timetable_of : ConstantRate → Timetable
timetable_of constant = Constant constant.rate constant.unit constant.duration
