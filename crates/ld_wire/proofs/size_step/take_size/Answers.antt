use Rattle.std.proofs.Common.{rules, ◌≡◌, ◌-◌, ◌++◌, ◌∙◌, ℕ, List, Option, length, take, subst, sym, arith}
use Rattle.std.specs.Prelude.{IfSome}
use Rattle.ld_wire.specs.Chunks.{ChunksRefuse}
use Rattle.ld_wire.specs.Found.{IsSizeAt}
use Rattle.ld_wire.specs.Standing.{Steps, place_of}
use Rattle.ld_wire.specs.declared.fault.WireFault.{WireFault}
use Rattle.ld_wire.specs.declared.place.ChunkPlace.{ChunkPlace}
use Rattle.ld_wire.proofs.SizeLemmas.{size_found, size_refused, size_too_long}
use Rattle.ld_wire.proofs.StandingLemmas.{step}
use Rattle.ld_wire.proofs.size_step.take_size.Goals as goal

pub returns-in-Ok-clause-ok : goal.returns-in-Ok-clause-ok
returns-in-Ok-clause-ok c body text count is =
    let held = c.args.held.now.items in
    let new = c.extend_from_slice.new.self.items in
    let piece = c.args.piece.now in
    let window = c.min-window.result in
    let least = c.min-window.ensures in
    let through = c.through_feed.ensures.inside in
    let before = c.len-before.ensures in
    let few = c.requires.few in
    let seen = c.deref.result.now in
    let whole : seen ≡ new = search rules in
    let appended : new ≡ held ++ take window piece = search rules in
    let same = whole ∙ appended in
    let P : Option (ℕ × ℕ) → Type 0 = λ o. IfSome o (λ line. IsSizeAt seen line.0 line.1) in
    let found : IsSizeAt seen c.in-Ok-Some.len c.in-Ok-Some.size = subst P c.in-Ok-Some.field-0-is c.in-Ok-Some.ensures.whole in
    let used : length held ≡ c.len-before.result = omega arith in
    let stepped = size_found held seen body text piece window c.in-Ok-Some.len c.in-Ok-Some.size c.args.total (omega arith) (omega arith)
    same found count c.in-Ok.ensures.ok.1 is in
    let less : c.in-Ok-Some.len - length held ≡ c.saturating_sub.result = let by = c.saturating_sub.ensures in omega arith in
    let Q : ℕ → Type 0 = λ n. Steps (step n (place_of c.in-Ok-Some.size)) seen body text piece in
    let R : ChunkPlace → Type 0 = λ p. Steps (step c.saturating_sub.result p) new body text piece in
    let S : List ℕ → Type 0 = λ kept. Steps (step c.saturating_sub.result (place_of c.in-Ok-Some.size)) kept body text piece in
    subst R (sym c.in-Ok.ensures.ok.0) (subst S whole (subst Q less stepped))

pub returns-in-Err-place_behind-clause-err : goal.returns-in-Err-place_behind-clause-err
returns-in-Err-place_behind-clause-err c other body text count is =
    let held = c.args.held.now.items in
    let new = c.extend_from_slice.new.self.items in
    let piece = c.args.piece.now in
    let window = c.min-window.result in
    let least = c.min-window.ensures in
    let through = c.through_feed.ensures.inside in
    let before = c.len-before.ensures in
    let few = c.requires.few in
    let seen = c.deref.result.now in
    let whole : seen ≡ new = search rules in
    let appended : new ≡ held ++ take window piece = search rules in
    let same = whole ∙ appended in
    let P : Option (ℕ × ℕ) → Type 0 = λ o. IfSome o (λ line. IsSizeAt seen line.0 line.1) in
    let found : IsSizeAt seen c.in-Ok-Some.len c.in-Ok-Some.size = subst P c.in-Ok-Some.field-0-is c.in-Ok-Some.ensures.whole in
    let Q : WireFault → Type 0 = λ f. ChunksRefuse (text ++ piece) f in
    let fault = c.in-Err-place_behind.ensures.err in
    subst Q (sym fault.0)
    (size_too_long held seen body text piece window c.in-Ok-Some.len c.in-Ok-Some.size c.args.total (omega arith) (omega arith)
    same found count fault.1 is)

pub returns-in-Err-clause-err : goal.returns-in-Err-clause-err
returns-in-Err-clause-err c other body text count is =
    let held = c.args.held.now.items in
    let new = c.extend_from_slice.new.self.items in
    let piece = c.args.piece.now in
    let window = c.min-window.result in
    let seen = c.deref.result.now in
    let whole : seen ≡ new = search rules in
    let appended : new ≡ held ++ take window piece = search rules in
    let same = whole ∙ appended in
    size_refused held seen body text piece window c.in-Err.fault same c.in-Err.ensures.refused is
