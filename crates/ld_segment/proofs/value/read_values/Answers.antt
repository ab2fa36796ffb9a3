use Rattle.std.proofs.lemmas.Result.{err_from_is_err_and}
use Rattle.ld_segment.proofs.ValueLemmas.{points_more_at, refused_at}
use Rattle.ld_segment.proofs.value.read_values.Goals as goal

pub returns-in_err-point-clause-refused : goal.returns-in_err-point-clause-refused
returns-in_err-point-clause-refused c =
    let p = err_from_is_err_and c.from_residual.result c.from_residual.ensures.1 in
    rw (p.1, p.2) (λ _. refused_at c.args.values.now c.loop-place.place _ c.loop-place.points.items _ c.loop-place-test.true c.loop-place.invariant c.in_err-point.ensures.refused)

pub loop-place-preserved : goal.loop-place-preserved
loop-place-preserved c =
    let h = c.push.ensures in
    let i = c.in-Ok.ensures in
    rw c.in-Ok.ensures.items
    (points_more_at c.args.values.now c.loop-place.place _ c.loop-place.points.items c.in_ok-point.point c.loop-place-test.true c.loop-place.invariant c.in_ok-point.ensures.value)
