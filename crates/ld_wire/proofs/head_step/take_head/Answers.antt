use Rattle.std.proofs.Common.{rules, ◌≡◌, ◌-◌, ◌++◌, ◌∙◌, ℕ, List, Option, length, take, sym, subst, arith}
use Rattle.std.specs.Prelude.{IfSome}
use Rattle.httparse.specs.Spans.{IsResponseOf, IsResponseWithin}
use Rattle.httparse.specs.declared.spans.ResponseSpans.{ResponseSpans}
use Rattle.ld_wire.specs.Heads.{HeadEnds}
use Rattle.httparse.specs.declared.spans.HeaderSpan.{HeaderSpan}
use Rattle.ld_wire.proofs.HeadStepLemmas.{head_ends, head_refused, whole_room}
use Rattle.ld_wire.proofs.head_step.take_head.Goals as goal

pub returns-in-Ok-Some-clause-whole : goal.returns-in-Ok-Some-clause-whole
returns-in-Ok-Some-clause-whole c =
    let held = c.args.head.now.items in
    let new = c.extend_from_slice.new.self.items in
    let piece = c.args.piece.now in
    let room = c.find_head.new.room in
    let old = c.widen.new.room.items in
    let kept_room : length room ≡ length old = search rules in
    let len_is : c.widen.new.room.len ≡ length room = search rules in
    let room_is = whole_room c.widen.new.room.len room old len_is kept_room in
    let window = c.min-window.result in
    let least = c.min-window.ensures in
    let before = c.len-before.ensures in
    let few = c.requires.short in
    let seen = c.deref.result.now in
    let whole : seen ≡ new = search rules in
    let appended : new ≡ held ++ take window piece = search rules in
    let found = c.in-Ok-Some.found in
    let P : Option ResponseSpans → Type 0 = λ o. IfSome o (IsResponseOf seen room) in
    let Q : Option ResponseSpans → Type 0 = λ o. IfSome o (IsResponseWithin seen room) in
    let is : IsResponseOf seen room found = subst P c.in-Ok-Some.field-0-is c.in-Ok-Some.ensures.whole in
    let within : IsResponseWithin seen room found = subst Q c.in-Ok-Some.field-0-is c.in-Ok-Some.ensures.within in
    let used : c.saturating_sub.result ≡ found.len - length held = let by = c.saturating_sub.ensures in omega arith in
    let R : List ℕ → Type 0 = λ t. HeadEnds held t room piece c.saturating_sub.result found in
    let S : List HeaderSpan → Type 0 = λ r. HeadEnds held c.truncate.new.self.items r piece c.saturating_sub.result found in
    let kept : take found.len seen ≡ c.truncate.new.self.items = search rules in
    subst S (sym room_is) (subst R kept
    (head_ends held seen piece window c.saturating_sub.result room found (omega arith) (omega arith) used (whole ∙ appended) c.requires is within))

pub returns-in-Err-clause-refused : goal.returns-in-Err-clause-refused
returns-in-Err-clause-refused c other =
    let held = c.args.head.now.items in
    let new = c.extend_from_slice.new.self.items in
    let piece = c.args.piece.now in
    let window = c.min-window.result in
    let seen = c.deref.result.now in
    let whole : seen ≡ new = search rules in
    let appended : new ≡ held ++ take window piece = search rules in
    head_refused held seen piece window c.in-Err.fault (whole ∙ appended) c.in-Err.ensures.refused
