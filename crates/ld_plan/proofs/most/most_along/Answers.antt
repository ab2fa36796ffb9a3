-- Each step goes on by one end or by one begin, for the users that are planned and for those that there may be.
use Rattle.std.proofs.Common.{◌<◌, ◌≤◌, arith, length, slice_index_or}
use Rattle.std.specs.Prelude.{List}
use Rattle.ld_plan.specs.declared.stay.Stay.{Stay}
use Rattle.ld_plan.proofs.SweepLemmas.{AreInOrder, AreOver, fits, leaves, over_begin, over_end, over_start, swept_all, swept_begin, swept_end, swept_start}
use Rattle.ld_plan.proofs.most.most_along.Goals as goal
use Rattle.ld_plan.proofs.most.most_along.Goals.{else-ended-ends-via-then-ended-ends+else-ends-ended, else-ended-ends-via-else-ended-ends}

abbrev none : Stay
none = record { from = 0; until = 0; planned = 0; limit = 0 }

pub loop-begun-init : goal.loop-begun-init
loop-begun-init c =
    let begins = c.args.begins.now in
    let ends = c.args.ends.now in
    let order : AreInOrder begins ends = record { same = c.requires.same; by_begin = c.requires.by_begin; by_end = c.requires.by_end; sometime = c.requires.sometime } in
    record {
      over = over_start begins ends;
      planned = swept_start (λ stay. stay.planned) begins ends order;
      limit = swept_start (λ stay. stay.limit) begins ends order;
    }

pub without-users-requires-clause-planned : goal.without-users-requires-clause-planned
without-users-requires-clause-planned c =
    let begins = c.args.begins.now in
    let ends = c.args.ends.now in
    let i = c.loop-begun.begun in
    let j = c.loop-begun.ended in
    let order : AreInOrder begins ends = record { same = c.requires.same; by_begin = c.requires.by_begin; by_end = c.requires.by_end; sometime = c.requires.sometime } in
    leaves (λ stay. stay.planned) begins ends i j c.loop-begun.users.planned c.loop-begun.most.planned none order
    (over_end begins ends i j none c.loop-begun.invariant.over c.loop-begun-test.true c.if-ended-ends.true c.if-ends-ended.true)
    c.loop-begun-test.true c.if-ended-ends.true c.loop-begun.invariant.planned

pub without-users-requires-clause-limit : goal.without-users-requires-clause-limit
without-users-requires-clause-limit c =
    let begins = c.args.begins.now in
    let ends = c.args.ends.now in
    let i = c.loop-begun.begun in
    let j = c.loop-begun.ended in
    let order : AreInOrder begins ends = record { same = c.requires.same; by_begin = c.requires.by_begin; by_end = c.requires.by_end; sometime = c.requires.sometime } in
    leaves (λ stay. stay.limit) begins ends i j c.loop-begun.users.limit c.loop-begun.most.limit none order
    (over_end begins ends i j none c.loop-begun.invariant.over c.loop-begun-test.true c.if-ended-ends.true c.if-ends-ended.true)
    c.loop-begun-test.true c.if-ended-ends.true c.loop-begun.invariant.limit

pub loop-begun-preserved-then-ends-ended : goal.loop-begun-preserved-then-ends-ended
loop-begun-preserved-then-ends-ended c =
    let begins = c.args.begins.now in
    let ends = c.args.ends.now in
    let i = c.loop-begun.begun in
    let j = c.loop-begun.ended in
    let order : AreInOrder begins ends = record { same = c.requires.same; by_begin = c.requires.by_begin; by_end = c.requires.by_end; sometime = c.requires.sometime } in
    let inside = c.loop-begun-test.true in
    let ending = c.if-ended-ends.true in
    let over = over_end begins ends i j none c.loop-begun.invariant.over inside ending c.if-ends-ended.true in
    let less = c.without-users.result in
    let users = c.loop-begun.users in
    let most = c.loop-begun.most in
    record {
      over = over;
      planned = swept_end (λ stay. stay.planned) begins ends i j users.planned most.planned less.planned none c.if-ended-ends.true
          (leaves (λ stay. stay.planned) begins ends i j users.planned most.planned none order over inside ending c.loop-begun.invariant.planned)
          c.without-users.ensures.planned c.loop-begun.invariant.planned;
      limit = swept_end (λ stay. stay.limit) begins ends i j users.limit most.limit less.limit none c.if-ended-ends.true
          (leaves (λ stay. stay.limit) begins ends i j users.limit most.limit none order over inside ending c.loop-begun.invariant.limit)
          c.without-users.ensures.limit c.loop-begun.invariant.limit;
    }

pub with-users-requires-clause-planned : goal.with-users-requires-clause-planned
with-users-requires-clause-planned c =
    let within =
    fits (λ stay. stay.planned) c.args.begins.now c.args.ends.now c.loop-begun.begun c.loop-begun.ended c.loop-begun.users.planned
    c.loop-begun.most.planned none c.loop-begun-test.true c.loop-begun.invariant.planned in
    let counted = c.requires.counted.planned in
    omega arith

pub with-users-requires-clause-limit : goal.with-users-requires-clause-limit
with-users-requires-clause-limit c =
    let within =
    fits (λ stay. stay.limit) c.args.begins.now c.args.ends.now c.loop-begun.begun c.loop-begun.ended c.loop-begun.users.limit
    c.loop-begun.most.limit none c.loop-begun-test.true c.loop-begun.invariant.limit in
    let counted = c.requires.counted.limit in
    omega arith

pub loop-begun-preserved : goal.loop-begun-preserved
loop-begun-preserved c =
    let begins = c.args.begins.now in
    let ends = c.args.ends.now in
    let i = c.loop-begun.begun in
    let j = c.loop-begun.ended in
    let order : AreInOrder begins ends = record { same = c.requires.same; by_begin = c.requires.by_begin; by_end = c.requires.by_end; sometime = c.requires.sometime } in
    let users = c.loop-begun.users in
    let most = c.loop-begun.most in
    let now = c.with-users.result in
    let greatest = c.greater-most.result in
    let over = c.loop-begun.invariant.over in
    let inside = c.loop-begun-test.true in
    let stays : j < length ends → (slice_index_or begins i none).from < (slice_index_or ends j none).until =
    elim c.else-ended-ends.branch [
      | else-ended-ends-via-then-ended-ends+else-ends-ended w ↦ λ left. let ahead = w.if-ends-ended.false in omega arith
      | else-ended-ends-via-else-ended-ends w ↦ λ left. let past = w.if-ended-ends.false in absurd (omega arith)
    ] in
    record {
      over = over_begin begins ends i j order inside over;
      planned = swept_begin (λ stay. stay.planned) begins ends i j users.planned most.planned now.planned greatest.planned none order
          inside over stays c.with-users.ensures.planned c.greater-most.ensures.planned c.loop-begun.invariant.planned;
      limit = swept_begin (λ stay. stay.limit) begins ends i j users.limit most.limit now.limit greatest.limit none order
          inside over stays c.with-users.ensures.limit c.greater-most.ensures.limit c.loop-begun.invariant.limit;
    }

pub returns-clause-planned : goal.returns-clause-planned
returns-clause-planned c =
    swept_all (λ stay. stay.planned) c.args.begins.now c.args.ends.now c.loop-begun.begun c.loop-begun.ended c.loop-begun.users.planned
    c.loop-begun.most.planned c.loop-begun-test.false c.loop-begun.invariant.planned

pub returns-clause-limit : goal.returns-clause-limit
returns-clause-limit c =
    swept_all (λ stay. stay.limit) c.args.begins.now c.args.ends.now c.loop-begun.begun c.loop-begun.ended c.loop-begun.users.limit
    c.loop-begun.most.limit c.loop-begun-test.false c.loop-begun.invariant.limit
