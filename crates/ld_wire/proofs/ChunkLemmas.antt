-- Bodies in chunks: a text begins with one of them at most, and then has no fault.
use Rattle.std.proofs.Common.{◌≡◌, ◌<◌, ◌≤◌, ◌⊎◌, ◌+◌, ◌∙◌, ℕ, zero, suc, List, [], ◌∷◌, ◌++◌, length, take, drop, arith, ap, sym, subst, refl, append_assoc, inl, inr}
use Rattle.std.specs.List.{AllByRecursion}
use Rattle.std.proofs.Math.Seq.{take-append_seam, drop-append_seam}
use Rattle.std.proofs.lemmas.List.{length-append}
use Rattle.httparse.specs.Ascii.{crlf_bytes}
use Rattle.httparse.specs.Grammar.{ChunkLine, print_chunk_line, chunk_size}
use Rattle.ld_wire.specs.Chunks.{Chunk, ChunksRefuse, HasBadRest, HasBadSize, HasLongTrailer, HasSizeFault, IsChunk, IsChunked, IsNoEnd, IsSizeLine, IsTrailer, LineRefuses, carried, print_chunk, print_chunks}
use Rattle.ld_wire.specs.Head.{body_limit}
use Rattle.ld_wire.specs.declared.fault.WireFault.{WireFault}
use Rattle.ld_wire.specs.declared.fault.WireFault.TheVariants.{BadChunk, BodyTooLong}
use Rattle.ld_wire.proofs.ChainLemmas.{AreUnique, Chain, IsEnd, after, chain_unique}
use Rattle.ld_wire.proofs.PieceLemmas.{no_size, no_trailer, size_unique, trailer_unique}

-- fronts of one length are one
pub front_unique : (a b r q : List ℕ) → length a ≡ length b → a ++ r ≡ b ++ q → (a ≡ b) × (r ≡ q)
front_unique a b r q long same = (
  sym (take-append_seam a r) ∙ ap (take (length a)) same ∙ ap (λ (n : ℕ). take n (b ++ q)) long ∙ take-append_seam b q,
  sym (drop-append_seam a r) ∙ ap (drop (length a)) same ∙ ap (λ (n : ℕ). drop n (b ++ q)) long ∙ drop-append_seam b q,
)

-- ---- chunks one behind another, with the bytes that they carry in all

abbrev pub Item : ℕ → Chunk → Type 0
Item total chunk = IsChunk chunk × (total + length chunk.bytes ≤ body_limit)

abbrev pub more_bytes : ℕ → Chunk → ℕ
more_bytes total chunk = total + length chunk.bytes

-- what stands behind a chunk's size line
pub behind_line : (chunk : Chunk) (rest : List ℕ)
    → print_chunk chunk ++ rest ≡ print_chunk_line chunk.line ++ (chunk.bytes ++ (crlf_bytes ++ rest))
behind_line chunk rest =
    append_assoc (print_chunk_line chunk.line) (chunk.bytes ++ crlf_bytes) rest
    ∙ ap (λ (t : List ℕ). print_chunk_line chunk.line ++ t) (append_assoc chunk.bytes crlf_bytes rest)

chunk_alike : (a b : Chunk) → a.line ≡ b.line → a.bytes ≡ b.bytes → a ≡ b
chunk_alike a b lines bytes = λ i. record { line = lines i; bytes = bytes i }

pub chunks_unique : AreUnique print_chunk Item
chunks_unique k a b r q x y same =
    let lines = size_unique a.line b.line (a.bytes ++ (crlf_bytes ++ r)) (b.bytes ++ (crlf_bytes ++ q)) x.0.line y.0.line
    (sym (behind_line a r) ∙ same ∙ behind_line b q) in
    let long : length a.bytes ≡ length b.bytes = x.0.sized ∙ ap chunk_size lines.0 ∙ sym y.0.sized in
    let both = front_unique a.bytes b.bytes (crlf_bytes ++ r) (crlf_bytes ++ q) long lines.1 in
    (chunk_alike a b lines.0 both.0, ap (drop 2) both.1)

pub chain_of_chunks : (total : ℕ) (chunks : List Chunk) → AllByRecursion IsChunk chunks
    → total + length (carried chunks) ≤ body_limit → Chain Item more_bytes total chunks
chain_of_chunks total [] are short = tt
chain_of_chunks total (chunk ∷ chunks) are short =
    let long = length-append chunk.bytes (carried chunks) in
    ((are.0, omega arith), chain_of_chunks (total + length chunk.bytes) chunks are.1 (omega arith))

pub total_behind : (total : ℕ) (chunks : List Chunk) → after more_bytes total chunks ≡ total + length (carried chunks)
total_behind total [] = omega arith
total_behind total (chunk ∷ chunks) =
    let long = length-append chunk.bytes (carried chunks) in
    let more = total_behind (total + length chunk.bytes) chunks in
    omega arith

-- ---- where no chunk begins

abbrev pub IsLast : ℕ → List ℕ → Type 0
IsLast total text = IsEnd print_chunk Item total text

-- at the line of size 0
pub last_end : (total : ℕ) (last : ChunkLine) (rest : List ℕ) → IsSizeLine last → chunk_size last ≡ 0
    → IsLast total (print_chunk_line last ++ rest)
last_end total last rest line ends chunk more item same =
    let lines = size_unique last chunk.line rest (chunk.bytes ++ (crlf_bytes ++ more)) line item.0.line (same ∙ behind_line chunk more) in
    let size = ap chunk_size lines.0 in
    let sized = item.0.sized in
    let some = item.0.some in
    omega arith

-- where no size line can come
bad_size_end : (total : ℕ) (text : List ℕ) → HasBadSize text → IsLast total text
bad_size_end total text bad chunk more item same =
    let P : List ℕ → Type 0 = λ t. HasBadSize t in
    no_size chunk.line (chunk.bytes ++ (crlf_bytes ++ more)) item.0.line (subst P (same ∙ behind_line chunk more) bad)

no_end : (rest : List ℕ) → IsNoEnd (crlf_bytes ++ rest) → ⊥
no_end rest (inl other) = other refl
no_end rest (inr other) = other refl

-- a chunk's bytes with their end have no fault
no_bad_rest : (size : ℕ) (bytes rest : List ℕ) → length bytes ≡ size → 0 < size → HasBadRest size (bytes ++ (crlf_bytes ++ rest)) → ⊥
no_bad_rest zero bytes rest long some bad = absurd (omega arith)
no_bad_rest (suc size) bytes rest long some bad =
    let P : List ℕ → Type 0 = λ t. IsNoEnd t in
    let both = front_unique bytes bad.0 (crlf_bytes ++ rest) bad.1 (long ∙ sym bad.2) bad.3 in
    no_end rest (subst P (sym both.1) bad.4)

-- where a line is at fault, or its chunk
refused_end : (total : ℕ) (text : List ℕ) (fault : WireFault) → LineRefuses total text fault → IsLast total text
refused_end total text fault refuses chunk more item same =
    let lines = size_unique refuses.line chunk.line refuses.rest (chunk.bytes ++ (crlf_bytes ++ more)) refuses.form item.0.line
    (sym refuses.text_is ∙ same ∙ behind_line chunk more) in
    let size : chunk_size refuses.line ≡ length chunk.bytes = ap chunk_size lines.0 ∙ sym item.0.sized in
    refused_item total chunk.bytes more refuses.rest (chunk_size refuses.line) fault size item.0.some item.1 lines.1 refuses.why
  where
    refused_item : (total : ℕ) (bytes more rest : List ℕ) (size : ℕ) (fault : WireFault) → size ≡ length bytes → 0 < length bytes
        → total + length bytes ≤ body_limit → rest ≡ bytes ++ (crlf_bytes ++ more)
        → ((fault ≡ BodyTooLong) × (body_limit < total + size))
        ⊎ ((fault ≡ BadChunk) × (total + size ≤ body_limit) × HasBadRest size rest)
        → ⊥
    refused_item total bytes more rest size fault sized some short same (inl over) = let long = over.1 in omega arith
    refused_item total bytes more rest size fault sized some short same (inr bad) =
        let P : List ℕ → Type 0 = λ t. HasBadRest size t in
        no_bad_rest size bytes more (sym sized) (omega arith) (subst P same bad.2)

-- ---- one body, or one fault

-- the last line and the trailer aren't at fault
no_last_fault : (total : ℕ) (last : ChunkLine) (trailer rest : List ℕ) (fault : WireFault) → IsSizeLine last → chunk_size last ≡ 0
    → total ≤ body_limit → IsTrailer trailer → LineRefuses total (print_chunk_line last ++ (trailer ++ rest)) fault → ⊥
no_last_fault total last trailer rest fault line ends short is refuses =
    let lines = size_unique refuses.line last refuses.rest (trailer ++ rest) refuses.form line (sym refuses.text_is) in
    no_fault total (chunk_size refuses.line) trailer rest refuses.rest fault (ap chunk_size lines.0 ∙ ends) short is lines.1 refuses.why
  where
    no_fault : (total size : ℕ) (trailer rest text : List ℕ) (fault : WireFault) → size ≡ 0 → total ≤ body_limit → IsTrailer trailer
        → text ≡ trailer ++ rest
        → ((fault ≡ BodyTooLong) × (body_limit < total + size))
        ⊎ ((fault ≡ BadChunk) × (total + size ≤ body_limit) × HasBadRest size text)
        → ⊥
    no_fault total size trailer rest text fault none short is same (inl over) = let long = over.1 in omega arith
    no_fault total zero trailer rest text fault none short is same (inr bad) =
        let P : List ℕ → Type 0 = λ t. HasLongTrailer t in
        no_trailer trailer rest is (subst P same bad.2)
    no_fault total (suc size) trailer rest text fault none short is same (inr bad) = absurd (omega arith)

-- a body's text, with what follows it, from its last line on
pub behind_chunks : (text body rest : List ℕ) (is : IsChunked text body)
    → text ++ rest ≡ print_chunks is.chunks ++ (print_chunk_line is.last ++ (is.trailer ++ rest))
behind_chunks text body rest is =
    ap (λ (t : List ℕ). t ++ rest) is.text_is
    ∙ append_assoc (print_chunks is.chunks) (print_chunk_line is.last ++ is.trailer) rest
    ∙ ap (λ (t : List ℕ). print_chunks is.chunks ++ t) (append_assoc (print_chunk_line is.last) is.trailer rest)

pub carried_short : (text body : List ℕ) (is : IsChunked text body) → length (carried is.chunks) ≤ body_limit
carried_short text body is = let same = ap length is.body_is in let short = is.short in omega arith

pub chunked_unique : (a b x y r q : List ℕ) → IsChunked a x → IsChunked b y → a ++ r ≡ b ++ q → (a ≡ b) × (x ≡ y)
chunked_unique a b x y r q f g same =
    let chained = chain_unique print_chunk Item more_bytes chunks_unique 0 f.chunks g.chunks
    (print_chunk_line f.last ++ (f.trailer ++ r)) (print_chunk_line g.last ++ (g.trailer ++ q))
    (chain_of_chunks 0 f.chunks f.form (let s = carried_short a x f in omega arith))
    (chain_of_chunks 0 g.chunks g.form (let s = carried_short b y g in omega arith))
    (sym (behind_chunks a x r f) ∙ same ∙ behind_chunks b y q g)
    (last_end (after more_bytes 0 f.chunks) f.last (f.trailer ++ r) f.line f.ends)
    (last_end (after more_bytes 0 g.chunks) g.last (g.trailer ++ q) g.line g.ends) in
    let lines = size_unique f.last g.last (f.trailer ++ r) (g.trailer ++ q) f.line g.line chained.1 in
    let trailers = trailer_unique f.trailer g.trailer r q f.behind g.behind lines.1 in (
      f.text_is ∙ ap (λ (cs : List Chunk). print_chunks cs ++ (print_chunk_line f.last ++ f.trailer)) chained.0
          ∙ ap (λ (l : ChunkLine). print_chunks g.chunks ++ (print_chunk_line l ++ f.trailer)) lines.0
          ∙ ap (λ (t : List ℕ). print_chunks g.chunks ++ (print_chunk_line g.last ++ t)) trailers.0 ∙ sym g.text_is,
      f.body_is ∙ ap carried chained.0 ∙ sym g.body_is,
    )

why_end : (total : ℕ) (text : List ℕ) (fault : WireFault) → HasSizeFault text fault ⊎ LineRefuses total text fault → IsLast total text
why_end total text fault (inl bad) = bad_size_end total text bad.1
why_end total text fault (inr bad) = refused_end total text fault bad

-- the same, where the total is written as it is counted
pub why_last : (chunks : List Chunk) (text : List ℕ) (fault : WireFault)
    → HasSizeFault text fault ⊎ LineRefuses (length (carried chunks)) text fault → IsLast (after more_bytes 0 chunks) text
why_last chunks text fault why =
    let P : ℕ → Type 0 = λ total. IsLast total text in
    let same : length (carried chunks) ≡ after more_bytes 0 chunks = let t = total_behind 0 chunks in omega arith in
    subst P same (why_end (length (carried chunks)) text fault why)

pub chunked_refuses : (text body rest : List ℕ) (fault : WireFault) → IsChunked text body → ChunksRefuse (text ++ rest) fault → ⊥
chunked_refuses text body rest fault is refuses =
    let short = carried_short text body is in
    let end = print_chunk_line is.last ++ (is.trailer ++ rest) in
    let chained = chain_unique print_chunk Item more_bytes chunks_unique 0 is.chunks refuses.chunks end refuses.rest
    (chain_of_chunks 0 is.chunks is.form (omega arith))
    (chain_of_chunks 0 refuses.chunks refuses.form (let s = refuses.short in omega arith))
    (sym (behind_chunks text body rest is) ∙ refuses.text_is)
    (last_end (after more_bytes 0 is.chunks) is.last (is.trailer ++ rest) is.line is.ends)
    (why_last refuses.chunks refuses.rest fault refuses.why) in
    let total : length (carried refuses.chunks) ≤ body_limit = refuses.short in
    at_last (length (carried refuses.chunks)) is.last is.trailer rest refuses.rest fault is.line is.ends total is.behind chained.1 refuses.why
  where
    at_last : (total : ℕ) (last : ChunkLine) (trailer rest text : List ℕ) (fault : WireFault) → IsSizeLine last → chunk_size last ≡ 0
        → total ≤ body_limit → IsTrailer trailer → print_chunk_line last ++ (trailer ++ rest) ≡ text
        → HasSizeFault text fault ⊎ LineRefuses total text fault → ⊥
    at_last total last trailer rest text fault line ends short is same (inl bad) =
        let P : List ℕ → Type 0 = λ t. HasBadSize t in
        no_size last (trailer ++ rest) line (subst P (sym same) bad.1)
    at_last total last trailer rest text fault line ends short is same (inr bad) =
        let P : List ℕ → Type 0 = λ t. LineRefuses total t fault in
        no_last_fault total last trailer rest fault line ends short is (subst P (sym same) bad)

-- a line has one fault
one_line_fault : (total : ℕ) (text : List ℕ) (f g : WireFault) → LineRefuses total text f → LineRefuses total text g → f ≡ g
one_line_fault total text f g x y =
    let lines = size_unique x.line y.line x.rest y.rest x.form y.form (sym x.text_is ∙ y.text_is) in
    whys total (chunk_size x.line) (chunk_size y.line) x.rest y.rest f g (ap chunk_size lines.0) x.why y.why
  where
    whys : (total m n : ℕ) (r q : List ℕ) (f g : WireFault) → m ≡ n
        → ((f ≡ BodyTooLong) × (body_limit < total + m)) ⊎ ((f ≡ BadChunk) × (total + m ≤ body_limit) × HasBadRest m r)
        → ((g ≡ BodyTooLong) × (body_limit < total + n)) ⊎ ((g ≡ BadChunk) × (total + n ≤ body_limit) × HasBadRest n q)
        → f ≡ g
    whys total m n r q f g same (inl x) (inl y) = x.0 ∙ sym y.0
    whys total m n r q f g same (inl x) (inr y) = let over = x.1 in let short = y.1 in absurd (omega arith)
    whys total m n r q f g same (inr x) (inl y) = let over = y.1 in let short = x.1 in absurd (omega arith)
    whys total m n r q f g same (inr x) (inr y) = x.0 ∙ sym y.0

-- a size line that can't come isn't there
no_line : (total : ℕ) (text : List ℕ) (f : WireFault) → HasBadSize text → LineRefuses total text f → ⊥
no_line total text f bad refuses =
    let P : List ℕ → Type 0 = λ t. HasBadSize t in
    no_size refuses.line refuses.rest refuses.form (subst P refuses.text_is bad)

one_why : (total : ℕ) (text : List ℕ) (f g : WireFault) → HasSizeFault text f ⊎ LineRefuses total text f
    → HasSizeFault text g ⊎ LineRefuses total text g → f ≡ g
one_why total text f g (inl x) (inl y) = x.0 ∙ sym y.0
one_why total text f g (inl x) (inr y) = absurd (no_line total text g x.1 y)
one_why total text f g (inr x) (inl y) = absurd (no_line total text f y.1 x)
one_why total text f g (inr x) (inr y) = one_line_fault total text f g x y

pub chunks_fault_unique : (text : List ℕ) (f g : WireFault) → ChunksRefuse text f → ChunksRefuse text g → f ≡ g
chunks_fault_unique text f g x y =
    let chained = chain_unique print_chunk Item more_bytes chunks_unique 0 x.chunks y.chunks x.rest y.rest
    (chain_of_chunks 0 x.chunks x.form (let s = x.short in omega arith))
    (chain_of_chunks 0 y.chunks y.form (let s = y.short in omega arith))
    (sym x.text_is ∙ y.text_is)
    (why_last x.chunks x.rest f x.why) (why_last y.chunks y.rest g y.why) in
    let P : List Chunk → Type 0 = λ cs. HasSizeFault y.rest g ⊎ LineRefuses (length (carried cs)) y.rest g in
    let Q : List ℕ → Type 0 = λ t. HasSizeFault t g ⊎ LineRefuses (length (carried x.chunks)) t g in
    one_why (length (carried x.chunks)) x.rest f g x.why (subst Q (sym chained.1) (subst P (sym chained.0) y.why))
