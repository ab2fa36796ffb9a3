use Rattle.ld_segment.proofs.WeightsPeriodLemmas.{large_before, least_none, next_least, next_positive}
use Rattle.ld_segment.proofs.weights.common_denominator.Goals as goal

pub lcm-requires-clause-a_positive : goal.lcm-requires-clause-a_positive
lcm-requires-clause-a_positive c = next_positive _ _ _ c.loop-point.invariant

pub loop-point-init : goal.loop-point-init
loop-point-init c = least_none

pub loop-point-preserved : goal.loop-point-preserved
loop-point-preserved c =
    next_least _ _ _ _ c.point-item.result c.loop-point-test.true c.point-item.is c.loop-point.invariant c.in_ok-multiple.ensures.least

pub returns-in_err-multiple-clause-too_large : goal.returns-in_err-multiple-clause-too_large
returns-in_err-multiple-clause-too_large c =
    rw c.from_residual.ensures
    (large_before _ _ _ _ _ c.point-item.result c.loop-point-test.true c.point-item.is c.loop-point.invariant
    c.in_err-multiple.ensures.too_large.1 c.in_err-multiple.ensures.too_large.2)
