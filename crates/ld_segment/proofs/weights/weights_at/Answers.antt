use Rattle.std.proofs.Common.{◌<◌, ◌-◌, ◌+◌, ◌≡◌, ◌∙◌, length, arith, sym}
use Rattle.ld_segment.proofs.WeightsPeriodLemmas.{divides_at}
use Rattle.ld_segment.proofs.WeightsLemmas.{all_weights, differences_first, inside_at, next_difference, next_rises}
use Rattle.ld_segment.proofs.weights.weights_at.Goals as goal

pub loop-position-init : goal.loop-position-init
loop-position-init c = c.in_ok-weights.ensures.items ∙ sym (differences_first _)

pub parts_below-from-requires-clause-whole : goal.parts_below-from-requires-clause-whole
parts_below-from-requires-clause-whole c =
    let below : c.loop-position.position - 1 < length c.args.points.now = omega arith in
    divides_at _ _ _ c.index-points-position.result below c.index-points-position.is c.requires.filled c.requires.period

pub parts_below-from-requires-clause-inside : goal.parts_below-from-requires-clause-inside
parts_below-from-requires-clause-inside c =
    let below : c.loop-position.position - 1 < length c.args.points.now = omega arith in
    inside_at _ _ c.index-points-position.result below c.index-points-position.is c.requires.filled

pub parts_below-to-requires-clause-whole : goal.parts_below-to-requires-clause-whole
parts_below-to-requires-clause-whole c =
    let read = c.index-points-position-in-loop-position in
    divides_at _ _ _ read.result c.loop-position-test.true read.is c.requires.filled c.requires.period

pub parts_below-to-requires-clause-inside : goal.parts_below-to-requires-clause-inside
parts_below-to-requires-clause-inside c =
    let read = c.index-points-position-in-loop-position in
    inside_at _ _ read.result c.loop-position-test.true read.is c.requires.filled

pub overflow_sub-to : goal.overflow_sub-to
overflow_sub-to c =
    let read = c.index-points-position-in-loop-position in
    let next : c.loop-position.position - 1 + 1 ≡ c.loop-position.position = omega arith in
    next_rises _ _ _ _ _ _ c.index-points-position.result read.result c.loop-position-test.true next
    c.index-points-position.is read.is c.requires.filled c.requires.period c.parts_below-from.ensures c.parts_below-to.ensures

pub loop-position-preserved : goal.loop-position-preserved
loop-position-preserved c =
    let read = c.index-points-position-in-loop-position in
    let next : c.loop-position.position - 1 + 1 ≡ c.loop-position.position = omega arith in
    c.in_ok-push.ensures.items
    ∙ next_difference _ _ _ _ _ _ c.index-points-position.result read.result c.loop-position-test.true next
    c.index-points-position.is read.is c.requires.filled c.requires.period c.parts_below-from.ensures c.parts_below-to.ensures
    _ c.loop-position.invariant

pub returns : goal.returns
returns c = all_weights _ _ _ _ c.loop-position-test.false c.requires.filled c.requires.period c.loop-position.invariant
