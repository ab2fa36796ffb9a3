use Rattle.std.proofs.Common.{◌≡◌, ◌≢◌, ◌<◌, ◌≤◌, ◌++◌, ℕ, List, Option, length, take, refl, subst}
use Rattle.std.specs.Prelude.{IfNone, IfSome}
use Rattle.httparse.specs.declared.spans.ResponseSpans.{ResponseSpans}
use Rattle.ld_wire.specs.Found.{IsOpenHead}
use Rattle.ld_wire.specs.Heads.{HeadEnds, InHead, IsFound, ShowsRefused, heads_view}
use Rattle.ld_wire.specs.Response.{Refuses}
use Rattle.ld_wire.specs.declared.fault.WireFault.{WireFault}
use Rattle.ld_wire.specs.declared.fault.WireFault.TheVariants.{Memory}
use Rattle.ld_wire.specs.declared.heads.Heads.{Heads}
use Rattle.ld_wire.proofs.HandedLemmas.{handed}
use Rattle.ld_wire.proofs.HeadsLemmas.{form_refused, head_goes_on, head_is_refused, no_headers, none_kept, room_is}
use Rattle.ld_wire.proofs.ShownLemmas.{form_shown, settled_shown}
use Rattle.ld_wire.proofs.heads.Heads.take_one.Goals as goal

pub returns-in_err-step-clause-room : goal.returns-in_err-step-clause-room
returns-in_err-step-clause-room c =
    let self = c.args.self.now in
    let new : Heads = record {
      for_head = self.for_head;
      interims = self.interims;
      bytes = c.take_head.new.head;
      room = c.take_head.new.room;
      headers = self.headers;
      status = self.status;
    } in
    room_is new (none_kept self c.requires.stands.0 c.requires.room c.requires.stands.1)

pub returns-in_err-step-clause-err : goal.returns-in_err-step-clause-err
returns-in_err-step-clause-err c =
    let self = c.args.self.now in
    let piece = c.args.piece.now in
    let P : WireFault → Type 0 = λ fault. fault ≢ Memory → (bytes : List ℕ) → InHead (heads_view self) bytes
    → Refuses self.for_head (bytes ++ piece) fault in
    handed P c.from_residual.result c.in_err-step.field-0.0 c.from_residual.ensures
    (λ other bytes is. form_refused (heads_view self) bytes piece c.in_err-step.field-0.0 (c.in_err-step.ensures.refused other) is)

pub returns-in_err-step-clause-shown : goal.returns-in_err-step-clause-shown
returns-in_err-step-clause-shown c =
    let self = c.args.self.now in
    let piece = c.args.piece.now in
    let new : Heads = record {
      for_head = self.for_head;
      interims = self.interims;
      bytes = c.take_head.new.head;
      room = c.take_head.new.room;
      headers = self.headers;
      status = self.status;
    } in
    let P : WireFault → Type 0 = λ fault. fault ≢ Memory → (bytes : List ℕ) → InHead (heads_view self) bytes
    → ShowsRefused (heads_view new) (bytes ++ piece) in
    handed P c.from_residual.result c.in_err-step.field-0.0 c.from_residual.ensures
    (λ other bytes is. form_shown (heads_view self) (heads_view new) bytes piece c.in_err-step.field-0.0 refl is.status
    (no_headers new.bytes.items new.headers new.room.items (none_kept self bytes c.requires.room is)) (c.in_err-step.ensures.refused other) is)

pub settle-requires-clause-none : goal.settle-requires-clause-none
settle-requires-clause-none c =
    (none_kept c.args.self.now c.requires.stands.0 c.requires.room c.requires.stands.1, c.requires.stands.1.status)

pub returns-in-Err-clause-err : goal.returns-in-Err-clause-err
returns-in-Err-clause-err c other bytes is =
    let self = c.args.self.now in
    let piece = c.args.piece.now in
    let new = c.take_head.new.head.items in
    let room = c.take_head.new.room.items in
    let found = c.in-Some.found in
    let P : Option ResponseSpans → Type 0 = λ o. IfSome o (HeadEnds self.bytes.items new room piece c.in_ok-step.step.used) in
    let ends : HeadEnds self.bytes.items new room piece c.in_ok-step.step.used found = subst P c.in-Some.is c.in_ok-step.ensures.whole in
    let at : IsFound new room found ends.head = record {
      form = ends.form;
      print = ends.print;
      code = ends.code;
      count = ends.count;
      within = ends.within;
      headers = ends.headers;
    } in
    head_is_refused (heads_view self) new bytes piece c.in_ok-step.step.used ends.head c.in-Err.fault ends.form ends.print ends.new_is
    (c.in-Err.ensures.err ends.head at) is

pub returns-in-Err-clause-shown : goal.returns-in-Err-clause-shown
returns-in-Err-clause-shown c other bytes is =
    let self = c.args.self.now in
    let piece = c.args.piece.now in
    let new = c.take_head.new.head.items in
    let room = c.take_head.new.room.items in
    let found = c.in-Some.found in
    let P : Option ResponseSpans → Type 0 = λ o. IfSome o (HeadEnds self.bytes.items new room piece c.in_ok-step.step.used) in
    let ends : HeadEnds self.bytes.items new room piece c.in_ok-step.step.used found = subst P c.in-Some.is c.in_ok-step.ensures.whole in
    let at : IsFound new room found ends.head = record {
      form = ends.form;
      print = ends.print;
      code = ends.code;
      count = ends.count;
      within = ends.within;
      headers = ends.headers;
    } in
    settled_shown (heads_view self) (heads_view c.settle.new.self) new bytes piece c.in_ok-step.step.used ends.head c.in-Err.fault c.settle.ensures.same
    ends.form ends.print ends.new_is is (c.in-Err.ensures.err ends.head at)
    (c.in-Err.ensures.shown is.before ends.head is.form is.count at)

pub returns-in-None-clause-room : goal.returns-in-None-clause-room
returns-in-None-clause-room c =
    let self = c.args.self.now in
    let new : Heads = record {
      for_head = self.for_head;
      interims = self.interims;
      bytes = c.take_head.new.head;
      room = c.take_head.new.room;
      headers = self.headers;
      status = self.status;
    } in
    room_is new (none_kept self c.requires.stands.0 c.requires.room c.requires.stands.1)

pub returns-in-None-clause-ok : goal.returns-in-None-clause-ok
returns-in-None-clause-ok c bytes is =
    let self = c.args.self.now in
    let piece = c.args.piece.now in
    let new : Heads = record {
      for_head = self.for_head;
      interims = self.interims;
      bytes = c.take_head.new.head;
      room = c.take_head.new.room;
      headers = self.headers;
      status = self.status;
    } in
    let used = c.in_ok-step.step.used in
    let P : Option ResponseSpans → Type 0 = λ o. IfNone o ((used ≤ length piece) × (0 < length piece → 0 < used)
    × (c.take_head.new.head.items ≡ self.bytes.items ++ take used piece) × IsOpenHead c.take_head.new.head.items) in
    let none = subst P c.in-None.is c.in_ok-step.ensures.none in
    head_goes_on self new used bytes piece refl refl refl (none_kept self bytes c.requires.room is) none.0 none.1 none.2 none.3 is
