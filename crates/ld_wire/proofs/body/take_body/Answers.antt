use Rattle.std.proofs.Common.{◌≡◌, ◌+◌, ℕ, List, length, subst}
use Rattle.std.proofs.lemmas.Result.{IfOk-weaker}
use Rattle.ld_wire.specs.Body.{BodyStands, BodyTakes}
use Rattle.ld_wire.specs.declared.body_place.BodyPlace.{BodyPlace}
use Rattle.ld_wire.specs.declared.body_place.BodyStep.{BodyStep}
use Rattle.ld_wire.specs.declared.framing.Follows.{Follows}
use Rattle.ld_wire.specs.declared.framing.Follows.TheVariants.{Bytes, Close}
use Rattle.ld_wire.proofs.BodyLemmas.{bytes_taken, close_taken}
use Rattle.ld_wire.proofs.body.take_body.Goals as goal

pub returns-in-Bytes-clause-ok : goal.returns-in-Bytes-clause-ok
returns-in-Bytes-clause-ok c =
    let held = c.args.held.now.items in
    let old = c.args.body.now.items in
    let new = c.take_bytes.new.body.items in
    let left = c.in-Bytes.left in
    let piece = c.args.piece.now in
    let P : BodyStep → Type 0 = λ step. (number : ℕ) (held : List ℕ) → length old + left ≡ number → BodyTakes (Bytes number) step held new old piece in
    let Q : BodyStep → Type 0 = λ step. (framing : Follows) (text : List ℕ) → BodyStands framing c.args.place held old text
    → BodyTakes framing step held new text piece in
    IfOk-weaker c.take_bytes.result P Q (λ step takes framing text stands.
    let R : BodyPlace → Type 0 = λ p. BodyStands framing p held old text in
    bytes_taken framing left step held old new text piece takes (subst R c.in-Bytes.is stands)) c.take_bytes.ensures.ok

pub returns-in-Close-clause-ok : goal.returns-in-Close-clause-ok
returns-in-Close-clause-ok c =
    let held = c.args.held.now.items in
    let old = c.args.body.now.items in
    let new = c.take_close.new.body.items in
    let piece = c.args.piece.now in
    let P : BodyStep → Type 0 = λ step. (held : List ℕ) → BodyTakes Close step held new old piece in
    let Q : BodyStep → Type 0 = λ step. (framing : Follows) (text : List ℕ) → BodyStands framing c.args.place held old text
    → BodyTakes framing step held new text piece in
    IfOk-weaker c.take_close.result P Q (λ step takes framing text stands.
    let R : BodyPlace → Type 0 = λ p. BodyStands framing p held old text in
    close_taken framing step held old new text piece takes (subst R c.in-Close.is stands)) c.take_close.ensures.ok
