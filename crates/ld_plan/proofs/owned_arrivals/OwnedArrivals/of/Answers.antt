use Rattle.std.proofs.Common.{◌<◌, refl, sym, subst}
use Rattle.ld_plan.proofs.owned_arrivals.OwnedArrivals.of.Goals as goal

pub invariant_of-result : goal.invariant_of-result
invariant_of-result c =
    record {
      limits = c.requires.limits;
      position = subst (λ n. c.args.position < n) (sym c.in_ok-items.ensures.positions) c.requires.inside;
    }
