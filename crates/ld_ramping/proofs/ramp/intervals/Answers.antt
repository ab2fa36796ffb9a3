use Rattle.std.proofs.Common.{◌≡◌, ◌∙◌, ◌+◌, ◌++◌, [], ℕ, List, Option, ap, arith, drop, length, slice_index_or, subst, sum_by, sym}
use Rattle.std.proofs.lemmas.List.{append-nil, at_drop_more}
use Rattle.std.proofs.Math.Seq.{drop-length}
use Rattle.std.proofs.lemmas.List.Sums.{sum_by-drop_more}
use Rattle.ld_base.specs.declared.stage.Stage.{Stage}
use Rattle.ld_ramping.specs.declared.interval.Interval.{Interval}
use Rattle.ld_ramping.specs.Intervals.{intervals_of, spans}
use Rattle.ld_ramping.specs.Turns.{listed, turns, turns_in}
use Rattle.ld_ramping.specs.Rising.{AreRising, EndBy}
use Rattle.ld_ramping.proofs.RiseLemmas.{intervals_are_rising, intervals_end}
use Rattle.ld_ramping.proofs.SpanLemmas.{span_open}
use Rattle.ld_ramping.proofs.ramp.intervals.Goals as goal

pub loop-stage-init : goal.loop-stage-init
loop-stage-init c =
    let user = c.from-user.result + 1 in
    let stages = c.args.stages.now in
    let fit = c.requires in (
      omega arith,
      ap (λ (items : List _). items ++ spans (listed c.turn_at-since.result ++ turns_in user 0 c.from-users.result stages))
          c.new-found.ensures.items
          ∙ ap (λ (since : Option ℕ). spans (listed since ++ turns_in user 0 c.from-users.result stages)) c.turn_at-since.ensures
          ∙ ap (λ users. spans (turns user users stages)) c.from-users.ensures,
    )

pub loop-stage-preserved : goal.loop-stage-preserved
unfolding turns_in
loop-stage-preserved c =
    let user = c.from-user.result + 1 in
    let stages = c.args.stages.now in
    let so_far = c.loop-stage in
    let i = so_far.stage-index in
    let none : Stage = record { target = 0; length = 0 } in
    let stage = slice_index_or stages i none in
    let fit = so_far.invariant.0 in
    let more = sum_by-drop_more (λ (s : Stage). s.length) stages i none c.loop-stage-test.true in
    let later = turns_in user (so_far.begin + stage.length) stage.target (drop (i + 1) stages) in (
      omega arith,
      sym (c.in_ok-since.ensures later)
          ∙ ap (λ turn. so_far.found.items ++ spans (listed so_far.since ++ (listed turn ++ later))) c.turn_of-turn.ensures
          ∙ sym (at_drop_more (λ (left : List Stage). so_far.found.items ++ spans (listed so_far.since ++ turns_in user so_far.begin so_far.users left))
          stages i none c.loop-stage-test.true)
          ∙ so_far.invariant.1,
    )

pub returns-clause-intervals : goal.returns-clause-intervals
unfolding turns_in
returns-clause-intervals c =
    let user = c.from-user.result + 1 in
    let stages = c.args.stages.now in
    let so_far = c.loop-stage in
    let found = c.turned-2.new.found.items in
    let past = c.loop-stage-test.false in
    let end = so_far.auto.stage-index-end in
    let last : so_far.stage-index ≡ length stages = omega arith in
    sym (append-nil found)
    ∙ ap (λ (spanned : List Interval). found ++ spanned) (sym (span_open c.in_ok-turned.field-0))
    ∙ sym (c.in_ok-turned.ensures [])
    ∙ ap (λ (turned : List ℕ). so_far.found.items ++ spans (listed so_far.since ++ turned)) (append-nil (listed c.turn_at.result))
    ∙ ap (λ (turn : Option ℕ). so_far.found.items ++ spans (listed so_far.since ++ listed turn)) c.turn_at.ensures
    ∙ ap (λ (left : List Stage). so_far.found.items ++ spans (listed so_far.since ++ turns_in user so_far.begin so_far.users left))
    (sym (ap (λ n. drop n stages) last ∙ drop-length stages))
    ∙ so_far.invariant.1
    ∙ ap (λ slot. intervals_of (slot + 1) c.args.start stages) c.from-user.ensures

pub returns-clause-rising : goal.returns-clause-rising
returns-clause-rising c =
    subst AreRising (sym (returns-clause-intervals c)) (intervals_are_rising (c.args.slot + 1) c.args.start c.args.stages.now)

pub returns-clause-in_time : goal.returns-clause-in_time
returns-clause-in_time c =
    let stages = c.args.stages.now in
    subst (EndBy (sum_by (λ stage. stage.length) stages)) (sym (returns-clause-intervals c))
    (intervals_end (c.args.slot + 1) c.args.start stages)
