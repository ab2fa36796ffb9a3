use Rattle.std.proofs.Common.{◌≤◌, length, arith, subst}
use Rattle.ld_segment.specs.Points.{Rise}
use Rattle.ld_segment.specs.Refusal.{AreAtMostOne}
use Rattle.ld_segment.proofs.FillingLemmas.{few_counted, many_counted, sequence_seen}
use Rattle.ld_segment.proofs.sequence.Sequence.of_points.Goals as goal

pub returns-then-filled_len-gt-MOST_POINTS-clause-refused :
    goal.returns-then-filled_len-gt-MOST_POINTS-clause-refused
returns-then-filled_len-gt-MOST_POINTS-clause-refused c = (
  omega arith,
  subst AreAtMostOne c.deref.ensures.value c.in_ok-check_points.ensures.at_most_one,
  subst Rise c.deref.ensures.value c.in_ok-check_points.ensures.rises,
  many_counted c.args.points.items _ _ c.deref-2.ensures.value c.filled_len.ensures c.if-filled_len-gt-MOST_POINTS.true,
)

pub invariant_of-result : goal.invariant_of-result
invariant_of-result c =
    let some : 2 ≤ length c.args.points.items = omega arith in
    sequence_seen c.args.points.items _ c.deref.ensures.value some
    c.in_ok-check_points.ensures.rises c.in_ok-check_points.ensures.at_most_one
    (few_counted c.args.points.items _ _ c.deref-2.ensures.value c.filled_len.ensures c.if-filled_len-gt-MOST_POINTS.false)

pub returns-clause-sequence : goal.returns-clause-sequence
returns-clause-sequence c =
    let some : 2 ≤ length c.args.points.items = omega arith in
    sequence_seen c.args.points.items _ c.deref.ensures.value some
    c.in_ok-check_points.ensures.rises c.in_ok-check_points.ensures.at_most_one
    (few_counted c.args.points.items _ _ c.deref-2.ensures.value c.filled_len.ensures c.if-filled_len-gt-MOST_POINTS.false)
