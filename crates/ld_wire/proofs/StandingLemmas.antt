-- A body in chunks, one step more at a time.
use Rattle.std.proofs.Common.{rules, ◌≡◌, ◌≢◌, ◌<◌, ◌≤◌, ◌-◌, ◌∙◌, ℕ, zero, suc, None, inl, inr, get_or, List, [], ◌∷◌, ◌++◌, length, take, arith, ap, sym, subst, refl, append_assoc, append-nil}
use Rattle.std.specs.List.{AllByRecursion}
use Rattle.std.proofs.lemmas.List.{length-append, length-take-le}
use Rattle.httparse.specs.Ascii.{crlf_bytes}
use Rattle.httparse.specs.Grammar.{ChunkLine, HasNoChunkLine, MayBecomeChunkLine, chunk_size, crlf, print_chunk_line, print_end, print_extension}
use Rattle.ld_wire.specs.Chunks.{Chunk, ChunksRefuse, HasBadRest, IsChunk, IsNoEnd, carried, print_chunk, print_chunks}
use Rattle.ld_wire.specs.Found.{IsOpenSize}
use Rattle.ld_wire.specs.Standing.{InData, InEnd, InSize, Steps}
use Rattle.ld_wire.specs.declared.fault.WireFault.TheVariants.{BadChunk}
use Rattle.ld_wire.specs.declared.place.ChunkPlace.{ChunkPlace}
use Rattle.ld_wire.specs.declared.place.ChunkPlace.TheVariants.{Size, Data, Return, Feed}
use Rattle.ld_wire.specs.declared.place.ChunkStep.{ChunkStep}

-- ---- bytes of a chunk

-- so many bytes more
pub more_data : (left used : ℕ) (body text piece : List ℕ) → used ≤ left → used ≤ length piece → InData left body text
    → InData (left - used) (body ++ take used piece) (text ++ take used piece)
more_data left used body text piece most inside is =
    let long = length-append is.bytes (take used piece) in
    let front = length-take-le used piece inside in
    let count = is.count in
    record {
      chunks = is.chunks;
      line = is.line;
      bytes = is.bytes ++ take used piece;
      form = is.form;
      line_form = is.line_form;
      count = omega arith;
      some = is.some;
      short = is.short;
      text_is = ap (λ (t : List ℕ). t ++ take used piece) is.text_is
          ∙ append_assoc (print_chunks is.chunks) (print_chunk_line is.line ++ is.bytes) (take used piece)
          ∙ ap (λ (t : List ℕ). print_chunks is.chunks ++ t) (append_assoc (print_chunk_line is.line) is.bytes (take used piece));
      body_is = ap (λ (t : List ℕ). t ++ take used piece) is.body_is ∙ append_assoc (carried is.chunks) is.bytes (take used piece);
    }

-- behind the last of them
pub filled : (body text : List ℕ) → InData 0 body text → InEnd [] body text
filled body text is = record { before = text; filled = is; text_is = sym (append-nil text) }

-- ---- the end of a chunk

chunks_more : (chunks : List Chunk) (chunk : Chunk) → AllByRecursion IsChunk chunks → IsChunk chunk → AllByRecursion IsChunk (chunks ++ chunk ∷ [])
chunks_more [] chunk are is = (is, tt)
chunks_more (first ∷ chunks) chunk are is = (are.0, chunks_more chunks chunk are.1 is)

print_more : (chunks : List Chunk) (chunk : Chunk) → print_chunks (chunks ++ chunk ∷ []) ≡ print_chunks chunks ++ print_chunk chunk
print_more [] chunk = append-nil (print_chunk chunk)
print_more (first ∷ chunks) chunk =
    ap (λ (t : List ℕ). print_chunk first ++ t) (print_more chunks chunk)
    ∙ sym (append_assoc (print_chunk first) (print_chunks chunks) (print_chunk chunk))

carried_more : (chunks : List Chunk) (chunk : Chunk) → carried (chunks ++ chunk ∷ []) ≡ carried chunks ++ chunk.bytes
carried_more [] chunk = append-nil chunk.bytes
carried_more (first ∷ chunks) chunk =
    ap (λ (t : List ℕ). first.bytes ++ t) (carried_more chunks chunk)
    ∙ sym (append_assoc first.bytes (carried chunks) chunk.bytes)

-- one byte more of an end
pub more_end : (part body text : List ℕ) (byte : ℕ) → InEnd part body text → InEnd (part ++ byte ∷ []) body (text ++ byte ∷ [])
more_end part body text byte is = record {
  before = is.before;
  filled = is.filled;
  text_is = ap (λ (t : List ℕ). t ++ byte ∷ []) is.text_is ∙ append_assoc is.before part (byte ∷ []);
}

-- behind its end a chunk is whole
pub next_size : (body text : List ℕ) → IsOpenSize [] → InEnd crlf_bytes body text → InSize [] body text
next_size body text begin is =
    let d = is.filled in
    let chunk : Chunk = record { line = d.line; bytes = d.bytes } in
    let count = d.count in
    let some = d.some in
    let short = d.short in
    let more = carried_more d.chunks chunk in
    let long = length-append (carried d.chunks) d.bytes in
    let carried_long = ap length more in
    record {
      chunks = d.chunks ++ chunk ∷ [];
      form = chunks_more d.chunks chunk d.form (record { line = d.line_form; sized = omega arith; some = omega arith });
      short = omega arith;
      text_is = is.text_is ∙ ap (λ (t : List ℕ). t ++ crlf_bytes) d.text_is
          ∙ append_assoc (print_chunks d.chunks) (print_chunk_line d.line ++ d.bytes) crlf_bytes
          ∙ ap (λ (t : List ℕ). print_chunks d.chunks ++ t) (append_assoc (print_chunk_line d.line) d.bytes crlf_bytes)
          ∙ sym (print_more d.chunks chunk) ∙ sym (append-nil (print_chunks (d.chunks ++ chunk ∷ [])));
      body_is = d.body_is ∙ sym more;
      more = begin;
    }

-- ---- steps

abbrev pub step : ℕ → ChunkPlace → ChunkStep
step used place = record { used = used; place = place }

pub data_ends : (left used : ℕ) (held old new text piece : List ℕ) → used ≤ length piece → left ≡ used → 0 < left
    → new ≡ old ++ take used piece → InData left old text → Steps (step used Return) held new text piece
data_ends left used held old new text piece inside all some same is =
    let P : ℕ → Type 0 = λ n. InData n (old ++ take used piece) (text ++ take used piece) in
    let Q : List ℕ → Type 0 = λ b. InEnd [] b (text ++ take used piece) in
    let none : left - used ≡ 0 = omega arith in
    record {
      inside = inside;
      some = λ _. omega arith;
      stands = subst Q (sym same) (filled (old ++ take used piece) (text ++ take used piece)
          (subst P none (more_data left used old text piece (omega arith) inside is)));
    }

pub data_goes_on : (left used rest : ℕ) (held old new text piece : List ℕ) → used ≤ length piece → rest ≡ left - used → 0 < rest
    → (0 < length piece → 0 < used) → new ≡ old ++ take used piece → InData left old text
    → Steps (step used (Data rest)) held new text piece
data_goes_on left used rest held old new text piece inside left_is more some same is =
    let P : List ℕ → Type 0 = λ b. InData (left - used) b (text ++ take used piece) in
    let Q : ℕ → Type 0 = λ n. InData n new (text ++ take used piece) in
    record {
      inside = inside;
      some = some;
      stands = (more, subst Q (sym left_is) (subst P (sym same) (more_data left used old text piece (omega arith) inside is)));
    }

-- an end that can't be continued
bad_rest_of : (size : ℕ) (bytes rest : List ℕ) → 0 < size → length bytes ≡ size → IsNoEnd rest → HasBadRest size (bytes ++ rest)
bad_rest_of zero bytes rest some long is = absurd (omega arith)
bad_rest_of (suc size) bytes rest some long is = (bytes, rest, long, refl, is)

end_refused : (part body text piece : List ℕ) → InEnd part body text → IsNoEnd (part ++ piece) → ChunksRefuse (text ++ piece) BadChunk
end_refused part body text piece is bad =
    let d = is.filled in
    let count = d.count in
    let short = d.short in
    let behind = d.bytes ++ (part ++ piece) in
    record {
      chunks = d.chunks;
      rest = print_chunk_line d.line ++ behind;
      form = d.form;
      short = omega arith;
      text_is = ap (λ (t : List ℕ). t ++ piece) is.text_is ∙ append_assoc is.before part piece
          ∙ ap (λ (t : List ℕ). t ++ (part ++ piece)) d.text_is
          ∙ append_assoc (print_chunks d.chunks) (print_chunk_line d.line ++ d.bytes) (part ++ piece)
          ∙ ap (λ (t : List ℕ). print_chunks d.chunks ++ t) (append_assoc (print_chunk_line d.line) d.bytes (part ++ piece));
      why = inr (record {
        line = d.line;
        rest = behind;
        form = d.line_form;
        text_is = refl;
        why = inr (refl, d.short, bad_rest_of (chunk_size d.line) d.bytes (part ++ piece) d.some (omega arith) bad);
      });
    }

no_return : (piece : List ℕ) → 0 < length piece → get_or piece 0 0 ≢ 13 → IsNoEnd piece
no_return [] some other = absurd (omega arith)
no_return (byte ∷ []) some other = other
no_return (byte ∷ next ∷ piece) some other = inl other

no_feed : (piece : List ℕ) → 0 < length piece → get_or piece 0 0 ≢ 10 → IsNoEnd (13 ∷ piece)
no_feed [] some other = absurd (omega arith)
no_feed (byte ∷ piece) some other = inr other

pub return_refused : (body text piece : List ℕ) → 0 < length piece → get_or piece 0 0 ≢ 13 → InEnd [] body text
    → ChunksRefuse (text ++ piece) BadChunk
return_refused body text piece some other is = end_refused [] body text piece is (no_return piece some other)

pub feed_refused : (body text piece : List ℕ) → 0 < length piece → get_or piece 0 0 ≢ 10 → InEnd (13 ∷ []) body text
    → ChunksRefuse (text ++ piece) BadChunk
feed_refused body text piece some other is = end_refused (13 ∷ []) body text piece is (no_feed piece some other)

first_is : (piece : List ℕ) (byte : ℕ) → 0 < length piece → get_or piece 0 0 ≡ byte → take 1 piece ≡ byte ∷ []
first_is [] byte some is = absurd (omega arith)
first_is (first ∷ piece) byte some is = ap (λ (b : ℕ). b ∷ []) is

pub return_goes : (held body text piece : List ℕ) → 0 < length piece → get_or piece 0 0 ≡ 13 → InEnd [] body text
    → Steps (step 1 Feed) held body text piece
return_goes held body text piece some first is =
    let P : List ℕ → Type 0 = λ t. InEnd (13 ∷ []) body (text ++ t) in
    record {
      inside = omega arith;
      some = λ _. omega arith;
      stands = subst P (sym (first_is piece 13 some first)) (more_end [] body text 13 is);
    }

-- a size line can come where nothing came yet
no_line_yet : HasNoChunkLine []
unfolding print_chunk_line
no_line_yet line rest is =
    let long = length-append (line.digits ++ line.pad ++ print_extension line.extension) (print_end crlf) in
    let whole = length-append (line.digits ++ line.pad ++ print_extension line.extension ++ print_end crlf) rest in
    let none = ap length is.1 in
    omega arith

line_may_come : MayBecomeChunkLine []
unfolding print_chunk_line
line_may_come =
    let line : ChunkLine = record { digits = 48 ∷ []; pad = []; extension = None } in
    (48 ∷ 13 ∷ 10 ∷ [], line, (record { digits = (omega arith, omega arith, search rules); pad = search rules; extension = tt }, refl))

pub size_may_come : IsOpenSize []
size_may_come = record { none = no_line_yet; more = line_may_come; short = omega arith }

pub feed_goes : (body text piece : List ℕ) → 0 < length piece → get_or piece 0 0 ≡ 10 → InEnd (13 ∷ []) body text
    → Steps (step 1 Size) [] body text piece
feed_goes body text piece some first is =
    let P : List ℕ → Type 0 = λ t. InSize [] body (text ++ t) in
    record {
      inside = omega arith;
      some = λ _. omega arith;
      stands = subst P (sym (first_is piece 10 some first)) (next_size body (text ++ 10 ∷ []) size_may_come (more_end (13 ∷ []) body text 10 is));
    }
