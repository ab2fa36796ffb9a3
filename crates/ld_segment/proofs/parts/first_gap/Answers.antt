use Rattle.std.proofs.Common.{◌≡◌, true, false, sym, ◌∙◌}
use Rattle.ld_segment.proofs.RiseLemmas.{meet_ends, meet_next}
use Rattle.ld_segment.proofs.parts.first_gap.Goals as goal

pub returns-then-not-meet-clause-some : goal.returns-then-not-meet-clause-some
returns-then-not-meet-clause-some c =
    meet_ends c.args.parts.now c.loop-place.place c.index-parts-place.result c.index-parts-place-in-loop-place.result
    c.loop-place.auto.place c.loop-place-test.true c.loop-place.invariant c.index-parts-place.is c.index-parts-place-in-loop-place.is
    (λ meets. let e : true ≡ false = sym (c.meet.ensures.1 meets) ∙ c.if-not-meet.true in cc)

pub loop-place-preserved : goal.loop-place-preserved
loop-place-preserved c =
    meet_next c.args.parts.now c.loop-place.place c.index-parts-place.result c.index-parts-place-in-loop-place.result
    c.loop-place.auto.place c.loop-place-test.true c.loop-place.invariant c.index-parts-place.is c.index-parts-place-in-loop-place.is
    (c.meet.ensures.0 c.if-not-meet.false)
