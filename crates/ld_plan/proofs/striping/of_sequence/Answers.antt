use Rattle.std.proofs.Common.{subst}
use Rattle.ld_stripe.specs.StripeFault as stripe
use Rattle.ld_plan.proofs.StripingLemmas.{weights_accepted}
use Rattle.ld_plan.proofs.striping.of_sequence.Goals as goal

pub unreachable-requires : goal.unreachable-requires
unreachable-requires c =
    let found = c.in_ok-weights.ensures in
    weights_accepted c.args.sequence.now c.in_ok-weights.weights.items found.weights found.small found.few found.weighted c.in-Err.fault
    (subst (λ ws. stripe.IsRefusal ws c.in-Err.fault) c.deref.ensures.value (c.in-Err.ensures.refused c.in_default.not-Memory))
