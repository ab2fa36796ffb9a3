use Rattle.std.proofs.Common.{List, ℕ, [], subst}
use Rattle.std.proofs.lemmas.Result.{IfOk-weaker}
use Rattle.ld_wire.specs.Standing.{InData, InEnd, InTrailer, StandsAt, Steps}
use Rattle.ld_wire.specs.declared.place.ChunkPlace.{ChunkPlace}
use Rattle.ld_wire.specs.declared.place.ChunkStep.{ChunkStep}
use Rattle.ld_wire.proofs.chunks.chunk_step.Goals as goal

pub returns-in-Data-clause-ok : goal.returns-in-Data-clause-ok
returns-in-Data-clause-ok c =
    let held = c.args.held.now.items in
    let body = c.args.body.now.items in
    let new = c.take_data.new.body.items in
    let left = c.in-Data.left in
    let piece = c.args.piece.now in
    let P : ChunkStep → Type 0 = λ step. (held text : List ℕ) → InData left body text → Steps step held new text piece in
    let Q : ChunkStep → Type 0 = λ step. (text : List ℕ) → StandsAt c.args.place held body text → Steps step held new text piece in
    IfOk-weaker c.take_data.result P Q (λ step takes text stands.
    let R : ChunkPlace → Type 0 = λ p. StandsAt p held body text in
    takes held text (subst R c.in-Data.is stands).1) c.take_data.ensures.ok

pub returns-in-Return-clause-ok : goal.returns-in-Return-clause-ok
returns-in-Return-clause-ok c =
    let held = c.args.held.now.items in
    let body = c.args.body.now.items in
    let piece = c.args.piece.now in
    let P : ChunkStep → Type 0 = λ step. (held body text : List ℕ) → InEnd [] body text → Steps step held body text piece in
    let Q : ChunkStep → Type 0 = λ step. (text : List ℕ) → StandsAt c.args.place held body text → Steps step held body text piece in
    IfOk-weaker c.take_return.result P Q (λ step takes text stands.
    let R : ChunkPlace → Type 0 = λ p. StandsAt p held body text in
    takes held body text (subst R c.in-Return.is stands)) c.take_return.ensures.ok

pub returns-in-Trailer-clause-ok : goal.returns-in-Trailer-clause-ok
returns-in-Trailer-clause-ok c =
    let held = c.args.held.now.items in
    let body = c.args.body.now.items in
    let piece = c.args.piece.now in
    let P : ChunkStep → Type 0 = λ step. (held body text : List ℕ) → InTrailer c.in-Trailer.line c.in-Trailer.seen body text → Steps step held body text piece in
    let Q : ChunkStep → Type 0 = λ step. (text : List ℕ) → StandsAt c.args.place held body text → Steps step held body text piece in
    IfOk-weaker c.take_trailer.result P Q (λ step takes text stands.
    let R : ChunkPlace → Type 0 = λ p. StandsAt p held body text in
    takes held body text (subst R c.in-Trailer.is stands)) c.take_trailer.ensures.ok
