use Rattle.ld_segment.proofs.FillingLemmas.{few_counted, many_counted}
use Rattle.ld_segment.proofs.PartLemmas.{parts_sequence, put_together}
use Rattle.ld_segment.proofs.RefusalLemmas.{parts_accepted, some_parts}
use Rattle.ld_segment.proofs.sequence.Sequence.of_segments.Goals as goal

pub returns-then-filled_len-gt-MOST_POINTS-clause-refused :
    goal.returns-then-filled_len-gt-MOST_POINTS-clause-refused
returns-then-filled_len-gt-MOST_POINTS-clause-refused c =
    let known = put_together c.args.parts.now c.in-Some.first.now c.in_ok-points.points.items
    c.in-Some.ensures.item.3.0 c.in-Some.ensures.item.1 c.in_default-first_gap.ensures.none c.in_ok-points.ensures in
    λ _. (
      some_parts c.args.parts.now c.in-Some.ensures.item.3.0,
      (
        c.in_ok-points.points.items,
        known.segments,
        many_counted c.in_ok-points.points.items _ _ c.deref.ensures.value c.filled_len.ensures c.if-filled_len-gt-MOST_POINTS.true,
      ),
    )

pub invariant_of-result : goal.invariant_of-result
invariant_of-result c =
    let known = put_together c.args.parts.now c.in-Some.first.now c.in_ok-points.points.items
    c.in-Some.ensures.item.3.0 c.in-Some.ensures.item.1 c.in_default-first_gap.ensures.none c.in_ok-points.ensures in
    parts_sequence c.args.parts.now c.in_ok-points.points.items known (few_counted c.in_ok-points.points.items _ _ c.deref.ensures.value c.filled_len.ensures c.if-filled_len-gt-MOST_POINTS.false)

pub returns-clause-sequence : goal.returns-clause-sequence
returns-clause-sequence c =
    let known = put_together c.args.parts.now c.in-Some.first.now c.in_ok-points.points.items
    c.in-Some.ensures.item.3.0 c.in-Some.ensures.item.1 c.in_default-first_gap.ensures.none c.in_ok-points.ensures in
    parts_sequence c.args.parts.now c.in_ok-points.points.items known (few_counted c.in_ok-points.points.items _ _ c.deref.ensures.value c.filled_len.ensures c.if-filled_len-gt-MOST_POINTS.false)

pub returns-clause-value : goal.returns-clause-value
returns-clause-value c =
    (put_together c.args.parts.now c.in-Some.first.now c.in_ok-points.points.items
    c.in-Some.ensures.item.3.0 c.in-Some.ensures.item.1 c.in_default-first_gap.ensures.none c.in_ok-points.ensures).segments

pub returns-clause-accepted : goal.returns-clause-accepted
returns-clause-accepted c =
    let known = put_together c.args.parts.now c.in-Some.first.now c.in_ok-points.points.items
    c.in-Some.ensures.item.3.0 c.in-Some.ensures.item.1 c.in_default-first_gap.ensures.none c.in_ok-points.ensures in
    parts_accepted c.args.parts.now c.in_ok-points.points.items (some_parts c.args.parts.now c.in-Some.ensures.item.3.0)
    c.in_default-first_gap.ensures.none known.segments
    (parts_sequence c.args.parts.now c.in_ok-points.points.items known (few_counted c.in_ok-points.points.items _ _ c.deref.ensures.value c.filled_len.ensures c.if-filled_len-gt-MOST_POINTS.false))
