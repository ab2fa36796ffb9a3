use Rattle.std.proofs.Common.{◌≡◌, true, false, sym, ◌∙◌}
use Rattle.ld_segment.proofs.RiseLemmas.{rise_ends, rise_next}
use Rattle.ld_segment.proofs.points.first_not_above.Goals as goal

pub returns-then-not-is_below-clause-some : goal.returns-then-not-is_below-clause-some
returns-then-not-is_below-clause-some c =
    rise_ends c.args.points.now c.loop-place.place c.index-points-place.result c.index-points-place-in-loop-place.result
    c.loop-place.auto.place c.loop-place-test.true c.loop-place.invariant c.index-points-place.is c.index-points-place-in-loop-place.is
    (λ below. let e : true ≡ false = sym (c.is_below.ensures.1 below) ∙ c.if-not-is_below.true in cc)

pub loop-place-preserved : goal.loop-place-preserved
loop-place-preserved c =
    rise_next c.args.points.now c.loop-place.place c.index-points-place.result c.index-points-place-in-loop-place.result
    c.loop-place.auto.place c.loop-place-test.true c.loop-place.invariant c.index-points-place.is c.index-points-place-in-loop-place.is
    (c.is_below.ensures.0 c.if-not-is_below.false)
