-- A body in chunks that isn't whole yet: no front of it is a whole one, and it has no fault.
use Rattle.std.proofs.Common.{◌≡◌, ◌≢◌, ◌<◌, ◌≤◌, ◌⊎◌, ◌+◌, ◌∙◌, ℕ, zero, suc, List, [], ◌∷◌, ◌++◌, length, arith, ap, sym, subst, refl, append_assoc, append-nil, inl, inr}
use Rattle.std.specs.List.{AllByRecursion}
use Rattle.std.proofs.lemmas.List.{length-append, take_all}
use Rattle.httparse.specs.Ascii.{crlf_bytes}
use Rattle.httparse.specs.Grammar.{ChunkLine, NeverHasChunkLine, print_chunk_line, chunk_size}
use Rattle.ld_wire.specs.Chunks.{Chunk, ChunksRefuse, HasBadRest, HasBadSize, IsChunk, IsChunked, IsNoEnd, IsSizeLine, IsTrailer, LineRefuses, carried, print_chunk, print_chunks, size_line_limit}
use Rattle.ld_wire.specs.Found.{IsOpenSize}
use Rattle.ld_wire.specs.Head.{body_limit}
use Rattle.ld_wire.specs.Standing.{InData, InEnd, StandsAt}
use Rattle.ld_wire.specs.Trailer.{IsTrailerSoFar}
use Rattle.ld_wire.specs.declared.fault.WireFault.{WireFault}
use Rattle.ld_wire.specs.declared.fault.WireFault.TheVariants.{BadChunk, BodyTooLong}
use Rattle.ld_wire.specs.declared.place.ChunkPlace.{ChunkPlace}
use Rattle.ld_wire.specs.declared.place.ChunkPlace.TheVariants.{Size, Data, Return, Feed, Trailer, Whole}
use Rattle.ld_wire.specs.declared.trailer.LineSoFar.{LineSoFar}
use Rattle.ld_wire.proofs.ChainLemmas.{after, chain_unique}
use Rattle.ld_wire.proofs.ChunkLemmas.{IsLast, Item, behind_chunks, behind_line, carried_short, chain_of_chunks, chunks_unique, front_unique, last_end, more_bytes, why_last}
use Rattle.ld_wire.proofs.PieceLemmas.{no_size, size_unique}
use Rattle.ld_wire.proofs.TrailerLemmas.{no_front}

-- a text, behind chunks that carry so many bytes, that isn't whole yet
record OpenTail (total : ℕ) (tail : List ℕ) : Type 0 where
  last : (k : ℕ) → IsLast k tail
  sized : HasBadSize tail → ⊥
  sound : (fault : WireFault) → LineRefuses total tail fault → ⊥
  none : (line : ChunkLine) (trailer rest : List ℕ) → IsSizeLine line → chunk_size line ≡ 0 → IsTrailer trailer
      → tail ≡ print_chunk_line line ++ (trailer ++ rest) → ⊥

-- ---- in a size line

open_size : (total : ℕ) (held : List ℕ) → IsOpenSize held → OpenTail total held
open_size total held is = record {
  last = λ k. λ chunk more item same. is.none chunk.line (chunk.bytes ++ (crlf_bytes ++ more)) (item.0.line.form, same ∙ behind_line chunk more);
  sized = λ bad. not_bad held is bad;
  sound = λ fault refuses. is.none refuses.line refuses.rest (refuses.form.form, refuses.text_is);
  none = λ line trailer rest form ends trails same. is.none line (trailer ++ rest) (form.form, same);
}
  where
    not_bad : (held : List ℕ) → IsOpenSize held → HasBadSize held → ⊥
    not_bad held is (inl never) =
        let short = is.short in
        let P : List ℕ → Type 0 = λ t. NeverHasChunkLine t in
        subst P (take_all size_line_limit held (omega arith)) never is.more.0 is.more.1 [] is.more.2
    not_bad held is (inr long) = let short = is.short in let full = long.0 in omega arith

-- ---- behind a size line

-- the rest behind a line of this size
no_rest_fault : (total size n : ℕ) (rest r : List ℕ) (fault : WireFault) → size ≡ n → total + size ≤ body_limit → r ≡ rest → (HasBadRest size rest → ⊥)
    → ((fault ≡ BodyTooLong) × (body_limit < total + n)) ⊎ ((fault ≡ BadChunk) × (total + n ≤ body_limit) × HasBadRest n r) → ⊥
no_rest_fault total size n rest r fault sized short same sound (inl over) = let long = over.1 in omega arith
no_rest_fault total size n rest r fault sized short same sound (inr bad) =
    let P : ℕ → Type 0 = λ k. HasBadRest k r in
    let Q : List ℕ → Type 0 = λ t. HasBadRest size t in
    sound (subst Q same (subst P (sym sized) bad.2))

no_line_fault : (total : ℕ) (line : ChunkLine) (rest : List ℕ) (fault : WireFault) → IsSizeLine line → total + chunk_size line ≤ body_limit
    → (HasBadRest (chunk_size line) rest → ⊥) → LineRefuses total (print_chunk_line line ++ rest) fault → ⊥
no_line_fault total line rest fault form short sound refuses =
    let lines = size_unique line refuses.line rest refuses.rest form refuses.form refuses.text_is in
    no_rest_fault total (chunk_size line) (chunk_size refuses.line) rest refuses.rest fault (ap chunk_size lines.0) short (sym lines.1) sound refuses.why

-- ---- in a chunk

-- the part of a chunk's end that came
no_bad_part : (size : ℕ) (bytes part : List ℕ) → 0 < size → (length bytes ≡ size) ⊎ (part ≡ []) → (part ≡ []) ⊎ (part ≡ 13 ∷ []) → length bytes ≤ size
    → HasBadRest size (bytes ++ part) → ⊥
no_bad_part zero bytes part some full two most bad = absurd (omega arith)
no_bad_part (suc size) bytes part some (inl full) (inl is) most bad =
    let P : List ℕ → Type 0 = λ t. IsNoEnd t in
    let both = front_unique bytes bad.0 part bad.1 (full ∙ sym bad.2) bad.3 in
    subst P (sym both.1 ∙ is) bad.4
no_bad_part (suc size) bytes part some (inl full) (inr is) most bad =
    let P : List ℕ → Type 0 = λ t. IsNoEnd t in
    let both = front_unique bytes bad.0 part bad.1 (full ∙ sym bad.2) bad.3 in
    subst P (sym both.1 ∙ is) bad.4 refl
no_bad_part (suc size) bytes part some (inr is) two most bad =
    let P : List ℕ → Type 0 = λ t. IsNoEnd t in
    let whole = ap length bad.3 in
    let left = length-append bytes part in
    let right = length-append bad.0 bad.1 in
    let none = ap length is in
    let sized = bad.2 in
    let rest : length bad.1 ≡ 0 = omega arith in
    subst P (empty bad.1 rest) bad.4
  where
    empty : (xs : List ℕ) → length xs ≡ 0 → xs ≡ []
    empty [] none = refl
    empty (x ∷ xs) none = absurd (omega arith)

open_chunk : (total : ℕ) (line : ChunkLine) (bytes part : List ℕ) → IsSizeLine line → 0 < chunk_size line → total + chunk_size line ≤ body_limit
    → (length bytes ≡ chunk_size line) ⊎ (part ≡ []) → (part ≡ []) ⊎ (part ≡ 13 ∷ []) → length bytes ≤ chunk_size line → length part ≤ 1
    → OpenTail total (print_chunk_line line ++ (bytes ++ part))
open_chunk total line bytes part form some short full two most one = record {
  last = λ k. λ chunk more item same.
      let lines = size_unique line chunk.line (bytes ++ part) (chunk.bytes ++ (crlf_bytes ++ more)) form item.0.line (same ∙ behind_line chunk more) in
      let size = ap chunk_size lines.0 in
      let sized = item.0.sized in
      let whole = ap length lines.1 in
      let left = length-append bytes part in
      let right = length-append chunk.bytes (crlf_bytes ++ more) in
      let end = length-append crlf_bytes more in
      omega arith;
  sized = λ bad. no_size line (bytes ++ part) form bad;
  sound = λ fault refuses. no_line_fault total line (bytes ++ part) fault form short (no_bad_part (chunk_size line) bytes part some full two most) refuses;
  none = λ last trailer rest last_form ends trails same.
      let lines = size_unique line last (bytes ++ part) (trailer ++ rest) form last_form same in
      let size = ap chunk_size lines.0 in
      omega arith;
}

-- ---- in the trailer

no_bad_trailer : (size : ℕ) (text : List ℕ) → size ≡ 0 → length text < 65536 → HasBadRest size text → ⊥
no_bad_trailer zero text none few bad = let long = bad.long in omega arith
no_bad_trailer (suc size) text none few bad = absurd (omega arith)

open_trailer : (total : ℕ) (line : LineSoFar) (last : ChunkLine) (trailer : List ℕ) → IsSizeLine last → chunk_size last ≡ 0 → total ≤ body_limit
    → IsTrailerSoFar line trailer → length trailer < 65536 → OpenTail total (print_chunk_line last ++ trailer)
open_trailer total line last trailer form ends short so_far few = record {
  last = λ k. last_end k last trailer form ends;
  sized = λ bad. no_size last trailer form bad;
  sound = λ fault refuses. no_line_fault total last trailer fault form (omega arith) (no_bad_trailer (chunk_size last) trailer ends few) refuses;
  none = λ other whole rest other_form other_ends trails same.
      let lines = size_unique last other trailer (whole ++ rest) form other_form same in
      no_front line trailer whole rest so_far trails lines.1;
}

-- ---- behind whole chunks

-- chunks, and behind them a text that isn't whole yet
pub record OpenChunks (text : List ℕ) : Type 0 where
  chunks : List Chunk
  tail : List ℕ
  form : AllByRecursion IsChunk chunks
  short : length (carried chunks) ≤ body_limit
  text_is : text ≡ print_chunks chunks ++ tail
  unfinished : OpenTail (length (carried chunks)) tail

chain_here : (chunks : List Chunk) (form : AllByRecursion IsChunk chunks) → length (carried chunks) ≤ body_limit → 0 + length (carried chunks) ≤ body_limit
chain_here chunks form short = omega arith

pub open_unrefused : (text : List ℕ) (fault : WireFault) → OpenChunks text → ChunksRefuse text fault → ⊥
open_unrefused text fault is y =
    let chained = chain_unique print_chunk Item more_bytes chunks_unique 0 is.chunks y.chunks is.tail y.rest
    (chain_of_chunks 0 is.chunks is.form (chain_here is.chunks is.form is.short))
    (chain_of_chunks 0 y.chunks y.form (chain_here y.chunks y.form y.short))
    (sym is.text_is ∙ y.text_is)
    (is.unfinished.last (after more_bytes 0 is.chunks)) (why_last y.chunks y.rest fault y.why) in
    let total : length (carried y.chunks) ≡ length (carried is.chunks) = ap (λ (cs : List Chunk). length (carried cs)) (sym chained.0) in
    no_why (length (carried is.chunks)) (length (carried y.chunks)) is.tail y.rest fault is.unfinished total (sym chained.1) y.why
  where
    no_why : (total other : ℕ) (tail rest : List ℕ) (fault : WireFault) → OpenTail total tail → other ≡ total → rest ≡ tail
        → ((fault ≡ BadChunk) × HasBadSize rest) ⊎ LineRefuses other rest fault → ⊥
    no_why total other tail rest fault is count same (inl bad) =
        let P : List ℕ → Type 0 = λ t. HasBadSize t in
        is.sized (subst P same bad.1)
    no_why total other tail rest fault is count same (inr bad) =
        let P : ℕ → Type 0 = λ n. LineRefuses n rest fault in
        let Q : List ℕ → Type 0 = λ t. LineRefuses total t fault in
        is.sound fault (subst Q same (subst P count bad))

pub open_unfinished : (text front rest body : List ℕ) → OpenChunks text → text ≡ front ++ rest → IsChunked front body → ⊥
open_unfinished text front rest body is same y =
    let end = print_chunk_line y.last ++ (y.trailer ++ rest) in
    let short = carried_short front body y in
    let chained = chain_unique print_chunk Item more_bytes chunks_unique 0 is.chunks y.chunks is.tail end
    (chain_of_chunks 0 is.chunks is.form (chain_here is.chunks is.form is.short))
    (chain_of_chunks 0 y.chunks y.form (omega arith))
    (sym is.text_is ∙ same ∙ behind_chunks front body rest y)
    (is.unfinished.last (after more_bytes 0 is.chunks)) (last_end (after more_bytes 0 y.chunks) y.last (y.trailer ++ rest) y.line y.ends) in
    is.unfinished.none y.last y.trailer rest y.line y.ends y.behind chained.1

-- ---- wherever it stands

open_data : (left : ℕ) (body text : List ℕ) → InData left body text → 0 < left → OpenChunks text
open_data left body text is some =
    let count = is.count in
    let short = is.short in
    record {
      chunks = is.chunks;
      tail = print_chunk_line is.line ++ (is.bytes ++ []);
      form = is.form;
      short = omega arith;
      text_is = is.text_is ∙ ap (λ (t : List ℕ). print_chunks is.chunks ++ (print_chunk_line is.line ++ t)) (sym (append-nil is.bytes));
      unfinished = open_chunk (length (carried is.chunks)) is.line is.bytes [] is.line_form is.some is.short (inr refl) (inl refl) (omega arith) (omega arith);
    }

open_end : (part body text : List ℕ) → InEnd part body text → (part ≡ []) ⊎ (part ≡ 13 ∷ []) → length part ≤ 1 → OpenChunks text
open_end part body text is two one =
    let d = is.filled in
    let count = d.count in
    let short = d.short in
    let full : length d.bytes ≡ chunk_size d.line = omega arith in
    record {
      chunks = d.chunks;
      tail = print_chunk_line d.line ++ (d.bytes ++ part);
      form = d.form;
      short = omega arith;
      text_is = is.text_is ∙ ap (λ (t : List ℕ). t ++ part) d.text_is
          ∙ append_assoc (print_chunks d.chunks) (print_chunk_line d.line ++ d.bytes) part
          ∙ ap (λ (t : List ℕ). print_chunks d.chunks ++ t) (append_assoc (print_chunk_line d.line) d.bytes part);
      unfinished = open_chunk (length (carried d.chunks)) d.line d.bytes part d.line_form d.some d.short (inl full) two (omega arith) one;
    }

pub open_chunks : (place : ChunkPlace) (held body text : List ℕ) → place ≢ Whole → StandsAt place held body text → OpenChunks text
open_chunks Size held body text other is = record {
  chunks = is.chunks;
  tail = held;
  form = is.form;
  short = is.short;
  text_is = is.text_is;
  unfinished = open_size (length (carried is.chunks)) held is.more;
}
open_chunks (Data left) held body text other is = open_data left body text is.1 is.0
open_chunks Return held body text other is = open_end [] body text is (inl refl) (omega arith)
open_chunks Feed held body text other is = open_end (13 ∷ []) body text is (inr refl) (omega arith)
open_chunks (Trailer line seen) held body text other is =
    let count = is.count in
    let few = is.few in
    record {
      chunks = is.chunks;
      tail = print_chunk_line is.last ++ is.trailer;
      form = is.form;
      short = is.short;
      text_is = is.text_is;
      unfinished = open_trailer (length (carried is.chunks)) line is.last is.trailer is.last_form is.ends is.short is.so_far (omega arith);
    }
open_chunks Whole held body text other is = absurd (other refl)
