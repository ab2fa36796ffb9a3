use Rattle.std.proofs.Common.{◌∷◌, [], arith}
use Rattle.ld_plan.specs.IsPlanOf.{whole_striping}
use Rattle.ld_plan.proofs.StripingLemmas.{one_striping, one_weight_accepted}
use Rattle.ld_plan.proofs.WholeLemmas.{striping_of_one}
use Rattle.ld_plan.proofs.striping.of_whole.Goals as goal

pub unreachable-requires : goal.unreachable-requires
unreachable-requires c = one_weight_accepted c.in-Err.fault (c.in-Err.ensures.refused c.in_default.not-Memory)

pub returns-in-Ok-clause-striping : goal.returns-in-Ok-clause-striping
returns-in-Ok-clause-striping c =
    one_striping (1 ∷ []) c.in-Ok.stripe whole_striping (omega arith) c.in-Ok.ensures.striping (striping_of_one 1)
