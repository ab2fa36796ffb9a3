use Rattle.std.proofs.Common.{arith, subst, sym}
use Rattle.ld_arrival.proofs.CountLemmas.{IsCount, counted}
use Rattle.ld_arrival.proofs.arrivals.Arrivals.ramping.Goals as goal

pub invariant_of-result : goal.invariant_of-result
invariant_of-result c =
    let limits = c.in_ok-check.ensures.within in
    let is = subst (IsCount _) (sym c.count-count.ensures) (counted _ limits) in
    record { limits = limits; counted = is.count; planned = is.those; few = omega arith }
