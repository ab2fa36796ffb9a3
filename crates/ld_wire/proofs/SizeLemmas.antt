-- A size line, some bytes more at a time.
use Rattle.std.proofs.Common.{◌≡◌, ◌<◌, ◌≤◌, ◌+◌, ◌-◌, ◌∙◌, ℕ, zero, suc, inl, inr, List, [], ◌++◌, length, take, drop, arith, ap, sym, subst, refl, append_assoc, append-nil}
use Rattle.std.proofs.lemmas.Bool.{cases_lt}
use Rattle.std.proofs.lemmas.List.{length-append, length-take-le, take-append-drop, take-append-le}
use Rattle.std.proofs.lemmas.List.Elements.{All-nil}
use Rattle.std.proofs.Math.Seq.{take-append-add, take-append_seam}
use Rattle.std.specs.Prelude.{IsTrue}
use Rattle.httparse.specs.Grammar.{ChunkLine, IsChunkLine, chunk_size, print_chunk_line}
use Rattle.ld_wire.specs.Chunks.{ChunksRefuse, HasSizeFault, IsSizeLine, carried, is_line_byte, print_chunks, size_line_limit}
use Rattle.ld_wire.specs.Found.{IsOpenSize, IsSizeAt}
use Rattle.ld_wire.specs.Head.{body_limit}
use Rattle.ld_wire.specs.Standing.{InSize, StandsAt, Steps, place_of}
use Rattle.ld_wire.specs.declared.fault.WireFault.{WireFault}
use Rattle.ld_wire.specs.declared.fault.WireFault.TheVariants.{BodyTooLong}
use Rattle.ld_wire.specs.declared.place.ChunkPlace.TheVariants.{Size}
use Rattle.ld_wire.proofs.StandingLemmas.{step}
use Rattle.ld_wire.proofs.StayLemmas.{chunks_stay}

-- the text with the first bytes of a piece
behind_held : (held body text more : List ℕ) (is : InSize held body text) → text ++ more ≡ print_chunks is.chunks ++ (held ++ more)
behind_held held body text more is =
    ap (λ (t : List ℕ). t ++ more) is.text_is ∙ append_assoc (print_chunks is.chunks) held more

-- none is whole yet
pub size_goes_on : (held new body text piece : List ℕ) (window : ℕ) → window ≤ length piece → (0 < length piece → 0 < window)
    → new ≡ held ++ take window piece → IsOpenSize new → InSize held body text → Steps (step window Size) new body text piece
size_goes_on held new body text piece window inside some same more is = record {
  inside = inside;
  some = some;
  stands = record {
    chunks = is.chunks;
    form = is.form;
    short = is.short;
    text_is = behind_held held body text (take window piece) is ∙ ap (λ (t : List ℕ). print_chunks is.chunks ++ t) (sym same);
    body_is = is.body_is;
    more = more;
  };
}

-- one is at fault
pub size_refused : (held new body text piece : List ℕ) (window : ℕ) (fault : WireFault)
    → new ≡ held ++ take window piece → HasSizeFault new fault
    → InSize held body text → ChunksRefuse (text ++ piece) fault
size_refused held new body text piece window fault same bad is =
    let P : List ℕ → Type 0 = λ t. ChunksRefuse t fault in
    let whole : (text ++ take window piece) ++ drop window piece ≡ text ++ piece =
    append_assoc text (take window piece) (drop window piece)
    ∙ ap (λ (t : List ℕ). text ++ t) (take-append-drop window piece) in
    subst P whole (chunks_stay (text ++ take window piece) (drop window piece) fault (record {
      chunks = is.chunks;
      rest = new;
      form = is.form;
      short = is.short;
      text_is = behind_held held body text (take window piece) is ∙ ap (λ (t : List ℕ). print_chunks is.chunks ++ t) (sym same);
      why = inl bad;
    }))

-- one is whole, and ends in the piece: it is what was held and so many bytes more
record Found (held piece : List ℕ) (window used size : ℕ) : Type 0 where
  line : ChunkLine
  form : IsSizeLine line
  line_is : print_chunk_line line ≡ held ++ take used piece
  size_is : size ≡ chunk_size line
  some : 0 < used
  inside : used ≤ window

found_at : (held new piece : List ℕ) (window len size : ℕ) → window ≤ length piece → length held + window ≤ size_line_limit
    → new ≡ held ++ take window piece → IsOpenSize held → IsSizeAt new len size → Found held piece window (len - length held) size
found_at held new piece window len size inside short same more is =
    let at = is.1 in
    let print = print_chunk_line is.0 in
    let long : length new ≡ length held + window =
    ap length same ∙ length-append held (take window piece) ∙ ap (λ (n : ℕ). length held + n) (length-take-le window piece inside) in
    let whole : length new ≡ length (print ++ drop len new) = ap length at.reads.1 in
    let parts = length-append print (drop len new) in
    let len_is = at.len_is in
    let front : take len new ≡ print = ap (take len) at.reads.1 ∙ ap (λ (n : ℕ). take n (print ++ drop len new)) len_is ∙ take-append_seam print (drop len new) in
    let over : length held < len = elim (cases_lt (length held) len) [
      | inl over ↦ over
      | inr under ↦ absurd (none_held held new piece window len is.0 under (at.reads.0) same len_is front more)
    ] in
    let split : len ≡ length held + (len - length held) = omega arith in
    let used : len - length held ≤ window = omega arith in
    record {
      line = is.0;
      form = record { form = at.reads.0; short = omega arith };
      line_is = sym front ∙ ap (take len) same ∙ ap (λ (n : ℕ). take n (held ++ take window piece)) split
          ∙ take-append-add held (take window piece) (len - length held)
          ∙ ap (λ (t : List ℕ). held ++ t) (take_less piece window (len - length held) inside used);
      size_is = at.size_is;
      some = omega arith;
      inside = used;
    }
  where
    none_held : (held new piece : List ℕ) (window len : ℕ) (line : ChunkLine) → len ≤ length held → IsChunkLine line → new ≡ held ++ take window piece
        → len ≡ length (print_chunk_line line) → take len new ≡ print_chunk_line line → IsOpenSize held → ⊥
    none_held held new piece window len line under form same len_is front more =
        let begins : take len held ≡ print_chunk_line line =
        sym (take-append-le len held (take window piece) under) ∙ ap (take len) (sym same) ∙ front in
        more.none line (drop len held)
        (form, sym (take-append-drop len held) ∙ ap (λ (t : List ℕ). t ++ drop len held) begins)

    take_less : (piece : List ℕ) (window used : ℕ) → window ≤ length piece → used ≤ window → take used (take window piece) ≡ take used piece
    take_less piece window used inside under =
        let long : used ≤ length (take window piece) = let l = length-take-le window piece inside in omega arith in
        sym (take-append-le used (take window piece) (drop window piece) long) ∙ ap (take used) (take-append-drop window piece)

-- the place behind it
stands_behind : (size : ℕ) (held body text more : List ℕ) (line : ChunkLine) → size ≡ chunk_size line → IsSizeLine line
    → print_chunk_line line ≡ held ++ more → length body + size ≤ body_limit → InSize held body text → (next : List ℕ)
    → StandsAt (place_of size) next body (text ++ more)
stands_behind zero held body text more line sized form line_is short is next = record {
  chunks = is.chunks;
  last = line;
  trailer = [];
  form = is.form;
  last_form = form;
  ends = sym sized;
  short = is.short;
  so_far = record { lines = []; part = []; form = tt; one = All-nil (λ b. IsTrue (is_line_byte b)); is = refl; text_is = refl };
  count = refl;
  few = omega arith;
  text_is = behind_held held body text more is ∙ ap (λ (t : List ℕ). print_chunks is.chunks ++ t) (sym line_is)
      ∙ ap (λ (t : List ℕ). print_chunks is.chunks ++ t) (sym (append-nil (print_chunk_line line)));
  body_is = is.body_is;
}
stands_behind (suc size) held body text more line sized form line_is short is next =
    let same = ap length is.body_is in (
      omega arith,
      record {
        chunks = is.chunks;
        line = line;
        bytes = [];
        form = is.form;
        line_form = form;
        count = omega (arith, sized);
        some = omega arith;
        short = omega arith;
        text_is = behind_held held body text more is ∙ ap (λ (t : List ℕ). print_chunks is.chunks ++ t) (sym line_is)
            ∙ ap (λ (t : List ℕ). print_chunks is.chunks ++ t) (sym (append-nil (print_chunk_line line)));
        body_is = is.body_is ∙ sym (append-nil (carried is.chunks));
      },
    )

pub size_found : (held new body text piece : List ℕ) (window len size total : ℕ) → window ≤ length piece → length held + window ≤ size_line_limit
    → new ≡ held ++ take window piece → IsSizeAt new len size → length body ≡ total → total + size ≤ body_limit → InSize held body text
    → Steps (step (len - length held) (place_of size)) new body text piece
size_found held new body text piece window len size total inside few same found count short is =
    let f = found_at held new piece window len size inside few same is.more found in
    let used = f.inside in
    record {
      inside = omega arith;
      some = λ _. f.some;
      stands = stands_behind size held body text (take (len - length held) piece) f.line f.size_is f.form f.line_is (omega arith) is new;
    }

pub size_too_long : (held new body text piece : List ℕ) (window len size total : ℕ) → window ≤ length piece → length held + window ≤ size_line_limit
    → new ≡ held ++ take window piece → IsSizeAt new len size → length body ≡ total → body_limit < total + size → InSize held body text
    → ChunksRefuse (text ++ piece) BodyTooLong
size_too_long held new body text piece window len size total inside few same found count long is =
    let f = found_at held new piece window len size inside few same is.more found in
    let used = len - length held in
    let bodies = ap length is.body_is in
    let sized = f.size_is in
    let P : List ℕ → Type 0 = λ t. ChunksRefuse t BodyTooLong in
    let whole : (text ++ take used piece) ++ drop used piece ≡ text ++ piece =
    append_assoc text (take used piece) (drop used piece) ∙ ap (λ (t : List ℕ). text ++ t) (take-append-drop used piece) in
    subst P whole (chunks_stay (text ++ take used piece) (drop used piece) BodyTooLong (record {
      chunks = is.chunks;
      rest = print_chunk_line f.line;
      form = is.form;
      short = is.short;
      text_is = behind_held held body text (take used piece) is ∙ ap (λ (t : List ℕ). print_chunks is.chunks ++ t) (sym f.line_is);
      why = inr (record {
        line = f.line;
        rest = [];
        form = f.form;
        text_is = sym (append-nil (print_chunk_line f.line));
        why = inl (refl, omega arith);
      });
    }))
