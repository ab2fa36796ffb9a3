use Rattle.std.proofs.Common.{◌≤◌, arith, subst, sym}
use Rattle.ld_segment.specs.Weights.{HasWeights, greatest_period}
use Rattle.ld_segment.proofs.WeightsFaultLemmas.{not_refused}
use Rattle.ld_segment.proofs.WeightsLemmas.{weights_length, weights_lowest, weights_positive, weights_sum}
use Rattle.ld_segment.proofs.weights.weights_of.Goals as goal

pub returns-clause-weights : goal.returns-clause-weights
returns-clause-weights c =
    let total = weights_sum _ _ _ c.requires.filled c.in_ok-weights_at.ensures in
    subst (λ n. HasWeights c.args.points.now n c.in_ok-weights_at.field-0.items) (sym total) c.in_ok-weights_at.ensures

pub returns-clause-small : goal.returns-clause-small
returns-clause-small c =
    let total = weights_sum _ _ _ c.requires.filled c.in_ok-weights_at.ensures in
    omega arith

pub returns-clause-positions : goal.returns-clause-positions
returns-clause-positions c = weights_length _ _ _ c.requires.filled c.in_ok-weights_at.ensures

pub returns-clause-weighted : goal.returns-clause-weighted
returns-clause-weighted c = weights_positive _ _ _ c.requires.filled c.in_ok-weights_at.ensures

pub returns-clause-lowest : goal.returns-clause-lowest
returns-clause-lowest c = weights_lowest _ _ _ c.requires.filled c.in_ok-weights_at.ensures

pub returns-clause-accepted : goal.returns-clause-accepted
returns-clause-accepted c =
    let small : c.capped_period-period.result ≤ greatest_period = omega arith in
    not_refused _ _ c.requires.filled c.in_ok-weights_at.ensures.has_period small
