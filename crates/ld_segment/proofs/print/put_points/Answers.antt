use Rattle.ld_segment.proofs.PrintLemmas.{text_step}
use Rattle.ld_segment.proofs.print.put_points.Goals as goal

pub loop-place-preserved : goal.loop-place-preserved
loop-place-preserved c =
    text_step c.args.into.now.items c.loop-place.into.items c.put_next.new.into.items c.args.points.now c.loop-place.place
    c.index-points-place.result c.loop-place-test.true c.index-points-place.is c.loop-place.invariant c.in_ok-put_next.ensures.ok
