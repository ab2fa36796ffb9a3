-- What more bytes don't change: a whole response, and a fault.
use Rattle.std.proofs.Common.{◌≡◌, ◌<◌, ◌≤◌, ◌⊎◌, ◌+◌, ◌-◌, ◌∙◌, ℕ, zero, suc, Bool, false, List, [], ◌∷◌, ◌++◌, length, take, drop, arith, ap, sym, subst, append_assoc, inl, inr, Result, Ok, Err}
use Rattle.std.proofs.lemmas.Bool.{cases_lt}
use Rattle.std.proofs.lemmas.List.{length-append, take-append-drop, take-append-le, take_all}
use Rattle.std.proofs.Math.Seq.{take-append_seam}
use Rattle.httparse.specs.Grammar.{print_response, NeverHasResponse, HasNoResponse, print_chunk_line, chunk_size, NeverHasChunkLine, HasNoChunkLine}
use Rattle.ld_wire.specs.Chunks.{ChunksRefuse, HasBadRest, HasBadSize, HasLongTrailer, HasSizeFault, IsNoEnd, LineRefuses, carried, print_chunks, size_line_limit}
use Rattle.ld_wire.specs.Head.{body_limit, follows_head, head_limit}
use Rattle.ld_wire.specs.Response.{Begins, FollowedBy, HasBadHead, HasHeadFault, HasLongHead, HeadRefuses, IsResponse, Refuses, Response, print_heads}
use Rattle.ld_wire.specs.declared.fault.WireFault.{WireFault}
use Rattle.ld_wire.specs.declared.fault.WireFault.TheVariants.{BadChunk, BodyTooLong}
use Rattle.ld_wire.specs.declared.framing.Follows.{Follows}
use Rattle.ld_wire.specs.declared.framing.Follows.TheVariants.{Head, Nothing, Bytes, Chunks, Close}
use Rattle.ld_wire.proofs.PieceLemmas.{take_behind}

-- what is never so in a text, whatever follows, is never so in the first bytes of the text with more
never_stays : (Never : List ℕ → Type 0) → ((text more : List ℕ) → Never text → Never (text ++ more)) → (most : ℕ) (text more : List ℕ)
    → Never (take most text) → Never (take most (text ++ more))
never_stays Never grows most text more never =
    elim (cases_lt (length text) most) [
      | inl short ↦
          let window = take_all most text (omega arith) in
          let behind = take_behind most text more (omega arith) in
          subst Never (sym behind) (grows text (take (most - length text) more) (subst Never window never))
      | inr long ↦ subst Never (sym (take-append-le most text more (omega arith))) never
    ]

never_head_grows : (text more : List ℕ) → NeverHasResponse text → NeverHasResponse (text ++ more)
never_head_grows text more never behind =
    let P : List ℕ → Type 0 = λ t. HasNoResponse t in
    subst P (sym (append_assoc text more behind)) (never (more ++ behind))

never_size_grows : (text more : List ℕ) → NeverHasChunkLine text → NeverHasChunkLine (text ++ more)
never_size_grows text more never behind =
    let P : List ℕ → Type 0 = λ t. HasNoChunkLine t in
    subst P (sym (append_assoc text more behind)) (never (more ++ behind))

longer : (text more : List ℕ) → length text ≤ length (text ++ more)
longer text more = let whole = length-append text more in omega arith

-- ---- heads

bad_head_stays : (bytes more : List ℕ) → HasBadHead bytes → HasBadHead (bytes ++ more)
bad_head_stays bytes more bad =
    let P : List ℕ → Type 0 = λ t. NeverHasResponse t in
    never_stays P never_head_grows head_limit bytes more bad

long_head_stays : (bytes more : List ℕ) → HasLongHead bytes → HasLongHead (bytes ++ more)
long_head_stays bytes more is =
    let window = take-append-le head_limit bytes more is.long in
    let P : List ℕ → Type 0 = λ t. HasNoResponse t in
    let Q : List ℕ → Type 0 = λ t. NeverHasResponse t in
    let more_bytes = longer bytes more in
    let long = is.long in
    record {
      long = omega arith;
      none = subst P (sym window) is.none;
      unsure = λ bad. is.unsure (subst Q window bad);
    }

pub head_fault_stays : (bytes more : List ℕ) (fault : WireFault) → HasHeadFault bytes fault → HasHeadFault (bytes ++ more) fault
head_fault_stays bytes more fault (inl bad) = inl (bad.0, bad_head_stays bytes more bad.1)
head_fault_stays bytes more fault (inr long) = inr (long.0, long_head_stays bytes more long.1)

-- ---- chunks

bad_size_stays : (text more : List ℕ) → HasBadSize text → HasBadSize (text ++ more)
bad_size_stays text more (inl never) =
    let P : List ℕ → Type 0 = λ t. NeverHasChunkLine t in
    inl (never_stays P never_size_grows size_line_limit text more never)
bad_size_stays text more (inr long) =
    let window = take-append-le size_line_limit text more long.0 in
    let P : List ℕ → Type 0 = λ t. HasNoChunkLine t in
    let more_bytes = longer text more in
    let full = long.0 in
    inr (omega arith, subst P (sym window) long.1)

no_end_stays : (text more : List ℕ) → IsNoEnd text → IsNoEnd (text ++ more)
no_end_stays [] more is = absurd is
no_end_stays (byte ∷ []) [] is = is
no_end_stays (byte ∷ []) (next ∷ more) is = inl is
no_end_stays (byte ∷ next ∷ text) more is = is

long_trailer_stays : (text more : List ℕ) → HasLongTrailer text → HasLongTrailer (text ++ more)
long_trailer_stays text more is =
    let more_bytes = longer text more in
    let long = is.long in
    record {
      long = omega arith;
      none = λ (front rest : List ℕ). λ same trailer.
          let short = trailer.short in
          let inside : length front ≤ length text = omega arith in
          let front_is : take (length front) text ≡ front =
          sym (take-append-le (length front) text more inside) ∙ ap (take (length front)) same ∙ take-append_seam front rest in
          is.none front (drop (length front) text)
          (sym (take-append-drop (length front) text) ∙ ap (λ (t : List ℕ). t ++ drop (length front) text) front_is) trailer;
    }

bad_rest_stays : (size : ℕ) (text more : List ℕ) → HasBadRest size text → HasBadRest size (text ++ more)
bad_rest_stays zero text more is = long_trailer_stays text more is
bad_rest_stays (suc size) text more is =
    (is.0, is.1 ++ more, is.2, ap (λ (t : List ℕ). t ++ more) is.3 ∙ append_assoc is.0 is.1 more, no_end_stays is.1 more is.4)

line_stays : (total : ℕ) (text more : List ℕ) (fault : WireFault) → LineRefuses total text fault → LineRefuses total (text ++ more) fault
line_stays total text more fault is = record {
  line = is.line;
  rest = is.rest ++ more;
  form = is.form;
  text_is = ap (λ (t : List ℕ). t ++ more) is.text_is ∙ append_assoc (print_chunk_line is.line) is.rest more;
  why = why_stays total (chunk_size is.line) is.rest fault is.why;
}
  where
    why_stays : (total size : ℕ) (rest : List ℕ) (fault : WireFault)
        → ((fault ≡ BodyTooLong) × (body_limit < total + size)) ⊎ ((fault ≡ BadChunk) × (total + size ≤ body_limit) × HasBadRest size rest)
        → ((fault ≡ BodyTooLong) × (body_limit < total + size)) ⊎ ((fault ≡ BadChunk) × (total + size ≤ body_limit) × HasBadRest size (rest ++ more))
    why_stays total size rest fault (inl over) = inl over
    why_stays total size rest fault (inr bad) = inr (bad.0, bad.1, bad_rest_stays size rest more bad.2)

chunk_why_stays : (total : ℕ) (text more : List ℕ) (fault : WireFault) → HasSizeFault text fault ⊎ LineRefuses total text fault
    → HasSizeFault (text ++ more) fault ⊎ LineRefuses total (text ++ more) fault
chunk_why_stays total text more fault (inl bad) = inl (bad.0, bad_size_stays text more bad.1)
chunk_why_stays total text more fault (inr bad) = inr (line_stays total text more fault bad)

pub chunks_stay : (text more : List ℕ) (fault : WireFault) → ChunksRefuse text fault → ChunksRefuse (text ++ more) fault
chunks_stay text more fault is = record {
  chunks = is.chunks;
  rest = is.rest ++ more;
  form = is.form;
  short = is.short;
  text_is = ap (λ (t : List ℕ). t ++ more) is.text_is ∙ append_assoc (print_chunks is.chunks) is.rest more;
  why = chunk_why_stays (length (carried is.chunks)) is.rest more fault is.why;
}

-- ---- responses

followed_stays : (r : Result Follows WireFault) (text more : List ℕ) (fault : WireFault) → FollowedBy r text fault → FollowedBy r (text ++ more) fault
followed_stays (Ok Head) text more fault is = is
followed_stays (Ok Nothing) text more fault is = is
followed_stays (Ok (Bytes number)) text more fault is = is
followed_stays (Ok Chunks) text more fault is = chunks_stay text more fault is
followed_stays (Ok Close) text more fault is = let long = longer text more in let over = is.1 in (is.0, omega arith)
followed_stays (Err found) text more fault is = is

pub why_stays : (for_head : Bool) (before : ℕ) (bytes more : List ℕ) (fault : WireFault) → HeadRefuses for_head before bytes fault ⊎ HasHeadFault bytes fault
    → HeadRefuses for_head before (bytes ++ more) fault ⊎ HasHeadFault (bytes ++ more) fault
why_stays for_head before bytes more fault (inl is) = inl (record {
  head = is.head;
  text = is.text ++ more;
  form = is.form;
  bytes_are = ap (λ (t : List ℕ). t ++ more) is.bytes_are ∙ append_assoc (print_response is.head) is.text more;
  why = followed_stays (follows_head for_head before is.head) is.text more fault is.why;
})
why_stays for_head before bytes more fault (inr is) = inr (head_fault_stays bytes more fault is)

-- a fault stays
pub fault_stays : (for_head : Bool) (bytes more : List ℕ) (fault : WireFault) → Refuses for_head bytes fault → Refuses for_head (bytes ++ more) fault
fault_stays for_head bytes more fault is = record {
  interims = is.interims;
  rest = is.rest ++ more;
  before = is.before;
  bytes_are = ap (λ (t : List ℕ). t ++ more) is.bytes_are ∙ append_assoc (print_heads is.interims) is.rest more;
  why = why_stays for_head (length is.interims) is.rest more fault is.why;
}

-- a whole response stays
pub begin_stays : (for_head : Bool) (bytes more : List ℕ) (used : ℕ) (response : Response) → Begins for_head bytes used response
    → Begins for_head (bytes ++ more) used response
begin_stays for_head bytes more used response is =
    let long = longer bytes more in
    let inside = is.inside in
    let P : List ℕ → Type 0 = λ t. IsResponse for_head false t response in
    record {
      inside = omega arith;
      whole = subst P (sym (take-append-le used bytes more is.inside)) is.whole;
    }
