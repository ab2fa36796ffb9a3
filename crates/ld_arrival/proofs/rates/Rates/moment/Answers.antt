use Rattle.std.proofs.Common.{subst}
use Rattle.ld_arrival.specs.Limits.{IsWithinLimits}
use Rattle.ld_arrival.specs.Rates.{timetable_of}
use Rattle.ld_arrival.specs.Timetable.{IsPlanned}
use Rattle.ld_arrival.specs.declared.rates.Rates.{Rates}
use Rattle.ld_arrival.proofs.CountLemmas.{wanted_within}
use Rattle.ld_arrival.proofs.rates.Rates.moment.Goals as goal

pub moment-requires-in-Ramping-clause-wanted : goal.moment-requires-in-Ramping-clause-wanted
moment-requires-in-Ramping-clause-wanted c =
    let rate = c.in-Ramping.rate in
    wanted_within rate.start_rate rate.unit rate.stages.items
    (subst (λ (r : Rates). IsWithinLimits (timetable_of r)) c.in-Ramping.is c.requires.limits) c.args.k
    (subst (λ (r : Rates). IsPlanned (timetable_of r) c.args.k) c.in-Ramping.is c.requires.planned)
