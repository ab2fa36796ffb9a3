use Rattle.std.proofs.Common.{rules, ◌≡◌, ◌≢◌, ◌≤◌, ◌+◌, ◌-◌, ◌++◌, ℕ, List, length, take, drop, arith, ◌∙◌}
use Rattle.ld_wire.specs.Heads.{InHead, ShowsRefused, heads_view}
use Rattle.ld_wire.specs.Response.{Refuses}
use Rattle.ld_wire.specs.declared.fault.WireFault.{WireFault}
use Rattle.ld_wire.specs.declared.fault.WireFault.TheVariants.{Memory}
use Rattle.ld_wire.specs.declared.framing.Follows.TheVariants.{Head}
use Rattle.ld_wire.proofs.HandedLemmas.{handed}
use Rattle.ld_wire.proofs.HeadsLemmas.{at_head, heads_behind, heads_refused_behind}
use Rattle.ld_wire.proofs.ShownLemmas.{shown_behind}
use Rattle.ld_wire.proofs.heads.Heads.take_heads.Goals as goal

pub take_one-requires-clause-stands : goal.take_one-requires-clause-stands
take_one-requires-clause-stands c =
    let is : c.loop-used.follows ≡ Head = search rules in
    let first = c.requires.stands in (
      first.0 ++ take c.loop-used.used c.args.piece.now,
      at_head c.loop-used.follows (heads_view c.loop-used.self) (first.0 ++ take c.loop-used.used c.args.piece.now) is
          (c.loop-used.invariant.stands first.0 first.1),
    )

pub returns-in_err-step-clause-err : goal.returns-in_err-step-clause-err
returns-in_err-step-clause-err c =
    let self = c.args.self.now in
    let piece = c.args.piece.now in
    let used = c.loop-used.used in
    let rest = c.split_at.result.1.now in
    let same : rest ≡ drop used piece = search rules in
    let is : c.loop-used.follows ≡ Head = search rules in
    let P : WireFault → Type 0 = λ fault. fault ≢ Memory → (bytes : List ℕ) → InHead (heads_view self) bytes
    → Refuses self.for_head (bytes ++ piece) fault in
    handed P c.from_residual.result c.in_err-step.field-0.0 c.from_residual.ensures
    (λ other bytes stands.
    heads_refused_behind c.loop-used.self.for_head self.for_head bytes piece rest used c.in_err-step.field-0.0 same c.loop-used.invariant.same
    (c.in_err-step.ensures.err other (bytes ++ take used piece)
    (at_head c.loop-used.follows (heads_view c.loop-used.self) (bytes ++ take used piece) is (c.loop-used.invariant.stands bytes stands))))

pub returns-in_err-step-clause-shown : goal.returns-in_err-step-clause-shown
returns-in_err-step-clause-shown c =
    let self = c.args.self.now in
    let piece = c.args.piece.now in
    let used = c.loop-used.used in
    let rest = c.split_at.result.1.now in
    let same : rest ≡ drop used piece = search rules in
    let is : c.loop-used.follows ≡ Head = search rules in
    let new = heads_view c.take_one.new.self in
    let P : WireFault → Type 0 = λ fault. fault ≢ Memory → (bytes : List ℕ) → InHead (heads_view self) bytes → ShowsRefused new (bytes ++ piece) in
    handed P c.from_residual.result c.in_err-step.field-0.0 c.from_residual.ensures
    (λ other bytes stands.
    shown_behind new bytes piece rest used same
    (c.in_err-step.ensures.shown other (bytes ++ take used piece)
    (at_head c.loop-used.follows (heads_view c.loop-used.self) (bytes ++ take used piece) is (c.loop-used.invariant.stands bytes stands))))

pub overflow_add-used : goal.overflow_add-used
overflow_add-used c =
    let piece = c.args.piece.now in
    let used = c.loop-used.used in
    let rest = c.split_at.result.1.now in
    let at = c.loop-used.invariant in
    let is : c.loop-used.follows ≡ Head = search rules in
    let first = c.requires.stands in
    let steps = c.in_ok-step.ensures.ok (first.0 ++ take used piece)
    (at_head c.loop-used.follows (heads_view c.loop-used.self) (first.0 ++ take used piece) is (at.stands first.0 first.1)) in
    let inside = steps.inside in
    let long : length rest ≡ length piece - used = search rules in
    let before = at.inside in
    let sum : used + c.in_ok-step.step.used ≤ length piece = omega arith in
    search rules

pub loop-used-smaller : goal.loop-used-smaller
loop-used-smaller c =
    let piece = c.args.piece.now in
    let used = c.loop-used.used in
    let rest = c.split_at.result.1.now in
    let at = c.loop-used.invariant in
    let is : c.loop-used.follows ≡ Head = search rules in
    let first = c.requires.stands in
    let steps = c.in_ok-step.ensures.ok (first.0 ++ take used piece)
    (at_head c.loop-used.follows (heads_view c.loop-used.self) (first.0 ++ take used piece) is (at.stands first.0 first.1)) in
    let inside = steps.inside in
    let long : length rest ≡ length piece - used = search rules in
    let before = at.inside in
    let more = steps.some in
    let test = c.loop-used-test.true in
    omega arith

pub loop-used-preserved : goal.loop-used-preserved
loop-used-preserved c =
    let piece = c.args.piece.now in
    let used = c.loop-used.used in
    let rest = c.split_at.result.1.now in
    let at = c.loop-used.invariant in
    let same : rest ≡ drop used piece = search rules in
    let is : c.loop-used.follows ≡ Head = search rules in
    let first = c.requires.stands in
    let steps = c.in_ok-step.ensures.ok (first.0 ++ take used piece)
    (at_head c.loop-used.follows (heads_view c.loop-used.self) (first.0 ++ take used piece) is (at.stands first.0 first.1)) in
    let inside = steps.inside in
    let long : length rest ≡ length piece - used = search rules in
    let before = at.inside in
    record {
      inside = omega arith;
      room = c.in_ok-step.ensures.room;
      same = c.in_ok-step.ensures.same ∙ at.same;
      stands = λ bytes stands.
          heads_behind c.in_ok-step.step.used c.in_ok-step.step.follows (heads_view c.take_one.new.self) bytes piece rest used same
          (c.in_ok-step.ensures.ok (bytes ++ take used piece)
          (at_head c.loop-used.follows (heads_view c.loop-used.self) (bytes ++ take used piece) is (at.stands bytes stands)));
    }
