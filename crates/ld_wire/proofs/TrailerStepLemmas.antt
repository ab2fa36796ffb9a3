-- A body in chunks in its trailer, some bytes more at a time.
use Rattle.std.proofs.Common.{◌≡◌, ◌<◌, ◌≤◌, ◌+◌, ◌∙◌, ℕ, zero, suc, inr, List, ◌++◌, length, take, arith, ap, sym, subst, refl, append_assoc}
use Rattle.std.proofs.lemmas.List.{length-append, take_all}
use Rattle.httparse.specs.Grammar.{print_chunk_line, chunk_size}
use Rattle.ld_wire.specs.Chunks.{ChunksRefuse, HasBadRest, HasLongTrailer, IsTrailer, print_chunks, trailer_limit}
use Rattle.ld_wire.specs.Standing.{InTrailer, Steps}
use Rattle.ld_wire.specs.Trailer.{IsTrailerSoFar}
use Rattle.ld_wire.specs.declared.fault.WireFault.TheVariants.{BadChunk}
use Rattle.ld_wire.specs.declared.place.ChunkPlace.TheVariants.{Trailer, Whole}
use Rattle.ld_wire.specs.declared.trailer.LineSoFar.{LineSoFar}
use Rattle.ld_wire.proofs.StandingLemmas.{step}

-- the text with more bytes
more_behind : (line : LineSoFar) (seen : ℕ) (body text more : List ℕ) (is : InTrailer line seen body text)
    → text ++ more ≡ print_chunks is.chunks ++ (print_chunk_line is.last ++ (is.trailer ++ more))
more_behind line seen body text more is =
    ap (λ (t : List ℕ). t ++ more) is.text_is
    ∙ append_assoc (print_chunks is.chunks) (print_chunk_line is.last ++ is.trailer) more
    ∙ ap (λ (t : List ℕ). print_chunks is.chunks ++ t) (append_assoc (print_chunk_line is.last) is.trailer more)

-- a whole piece belongs to it
pub trailer_goes : (line next : LineSoFar) (seen count : ℕ) (held body text piece : List ℕ) (is : InTrailer line seen body text)
    → IsTrailerSoFar next (is.trailer ++ piece) → length (is.trailer ++ piece) < trailer_limit → (seen + length piece < trailer_limit → count ≡ seen + length piece)
    → Steps (step (length piece) (Trailer next count)) held body text piece
trailer_goes line next seen count held body text piece is so_far few count_is =
    let long = length-append is.trailer piece in
    let before = is.count in
    let counted = count_is (omega arith) in
    let all : take (length piece) piece ≡ piece = take_all (length piece) piece (omega arith) in
    let P : List ℕ → Type 0 = λ t. InTrailer next count body (text ++ t) in
    record {
      inside = omega arith;
      some = λ some. some;
      stands = subst P (sym all) (record {
        chunks = is.chunks;
        last = is.last;
        trailer = is.trailer ++ piece;
        form = is.form;
        last_form = is.last_form;
        ends = is.ends;
        short = is.short;
        so_far = so_far;
        count = omega arith;
        few = omega arith;
        text_is = more_behind line seen body text piece is;
        body_is = is.body_is;
      });
    }

-- it ends in the piece
pub trailer_ends : (line : LineSoFar) (seen used : ℕ) (held body text piece : List ℕ) (is : InTrailer line seen body text)
    → 0 < used → used ≤ length piece → IsTrailer (is.trailer ++ take used piece) → Steps (step used Whole) held body text piece
trailer_ends line seen used held body text piece is some inside whole =
    let bodies = ap length is.body_is in
    let short = is.short in
    record {
      inside = inside;
      some = λ _. some;
      stands = record {
        chunks = is.chunks;
        last = is.last;
        trailer = is.trailer ++ take used piece;
        form = is.form;
        line = is.last_form;
        ends = is.ends;
        behind = whole;
        text_is = more_behind line seen body text (take used piece) is;
        body_is = is.body_is;
        short = omega arith;
      };
    }

bad_rest : (size : ℕ) (text : List ℕ) → size ≡ 0 → HasLongTrailer text → HasBadRest size text
bad_rest zero text none long = long
bad_rest (suc size) text none long = absurd (omega arith)

-- it is too long
pub trailer_refused : (line : LineSoFar) (seen : ℕ) (body text piece : List ℕ) (is : InTrailer line seen body text)
    → HasLongTrailer (is.trailer ++ piece) → ChunksRefuse (text ++ piece) BadChunk
trailer_refused line seen body text piece is long =
    let ends = is.ends in
    let short = is.short in
    record {
      chunks = is.chunks;
      rest = print_chunk_line is.last ++ (is.trailer ++ piece);
      form = is.form;
      short = is.short;
      text_is = more_behind line seen body text piece is;
      why = inr (record {
        line = is.last;
        rest = is.trailer ++ piece;
        form = is.last_form;
        text_is = refl;
        why = inr (refl, omega arith, bad_rest (chunk_size is.last) (is.trailer ++ piece) ends long);
      });
    }
