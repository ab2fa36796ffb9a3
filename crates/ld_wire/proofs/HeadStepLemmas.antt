-- A head, some bytes more at a time.
use Rattle.std.proofs.Common.{◌≡◌, ◌<◌, ◌≤◌, ◌+◌, ◌-◌, ◌∙◌, ℕ, inl, inr, All, List, [], ◌∷◌, ◌++◌, length, map, take, drop, arith, ap, ap₂, sym, subst, refl, append-nil}
use Rattle.std.specs.List.{AllByRecursion}
use Rattle.std.proofs.lemmas.Bool.{cases_lt}
use Rattle.std.proofs.lemmas.List.{drop_all, drop-take, take_all, length-append, length-take-le, take-append-drop, take-append-le, take-take}
use Rattle.std.proofs.lemmas.List.Elements.{recursion_from_All}
use Rattle.std.proofs.Math.Seq.{take-append-add, take-append_seam}
use Rattle.httparse.specs.Grammar.{ResponseHead, IsResponseHead, print_response}
use Rattle.httparse.specs.Spans.{IsHeaderWithin, IsResponseOf, IsResponseWithin, IsWithin, header_bytes, span_bytes}
use Rattle.httparse.specs.declared.spans.HeaderSpan.{HeaderSpan}
use Rattle.httparse.specs.declared.spans.ResponseSpans.{ResponseSpans}
use Rattle.httparse.specs.declared.spans.Span.{Span}
use Rattle.ld_wire.specs.Found.{IsOpenHead}
use Rattle.ld_wire.specs.Head.{head_limit}
use Rattle.ld_wire.specs.Heads.{HeadEnds}
use Rattle.ld_wire.specs.Response.{HasHeadFault}
use Rattle.ld_wire.specs.declared.fault.WireFault.{WireFault}
use Rattle.ld_wire.proofs.ChunkStepLemmas.{behind_all}
use Rattle.ld_wire.proofs.StayLemmas.{head_fault_stays}

-- ---- headers in the first bytes of a text

span_within : (text : List ℕ) (most : ℕ) (span : Span) → IsWithin most span → span_bytes (take most text) span ≡ span_bytes text span
span_within text most span is =
    let start = is.0 in
    let end = is.1 in
    let whole : most ≡ span.start + (most - span.start) = omega arith in
    ap (λ (n : ℕ). take (span.end - span.start) (drop span.start (take n text))) whole
    ∙ ap (take (span.end - span.start)) (drop-take span.start (most - span.start) text)
    ∙ take-take (span.end - span.start) (most - span.start) (drop span.start text) (omega arith)

all_within : (text : List ℕ) (most : ℕ) (spans : List HeaderSpan) → AllByRecursion (IsHeaderWithin most) spans
    → map (header_bytes (take most text)) spans ≡ map (header_bytes text) spans
all_within text most [] are = refl
all_within text most (span ∷ spans) are =
    ap₂ (λ (h : List ℕ × List ℕ) (hs : List (List ℕ × List ℕ)). h ∷ hs)
    (ap₂ (λ (n v : List ℕ). (n, v)) (span_within text most span.name are.0.0) (span_within text most span.value are.0.1))
    (all_within text most spans are.1)

-- ---- a head is whole

-- it isn't whole in the bytes that were held
none_held : (held seen piece : List ℕ) (window len : ℕ) (head : ResponseHead) → len ≤ length held → IsResponseHead head
    → seen ≡ held ++ take window piece → take len seen ≡ print_response head → IsOpenHead held → ⊥
none_held held seen piece window len head under form same front more =
    let begins : take len held ≡ print_response head =
    sym (take-append-le len held (take window piece) under) ∙ ap (take len) (sym same) ∙ front in
    more.none head (drop len held)
    (form, sym (take-append-drop len held) ∙ ap (λ (t : List ℕ). t ++ drop len held) begins)

pub head_ends : (held seen piece : List ℕ) (window used : ℕ) (room : List HeaderSpan) (found : ResponseSpans) → window ≤ length piece
    → length held + window ≤ head_limit → used ≡ found.len - length held → seen ≡ held ++ take window piece → IsOpenHead held → IsResponseOf seen room found
    → IsResponseWithin seen room found → HeadEnds held (take found.len seen) room piece used found
head_ends held seen piece window used room found inside short used_is same more is within =
    let at = is.1 in
    let print = print_response is.0 in
    let len = found.len in
    let long : length seen ≡ length held + window =
    ap length same ∙ length-append held (take window piece) ∙ ap (λ (n : ℕ). length held + n) (length-take-le window piece inside) in
    let whole : length seen ≡ length (print ++ drop len seen) = ap length at.reads.1 in
    let parts = length-append print (drop len seen) in
    let len_is = at.len in
    let fits = within.section.len_fits in
    let front : take len seen ≡ print =
    ap (take len) at.reads.1 ∙ ap (λ (n : ℕ). take n (print ++ drop len seen)) len_is ∙ take-append_seam print (drop len seen) in
    let over : length held < len = elim (cases_lt (length held) len) [
      | inl over ↦ over
      | inr under ↦ absurd (none_held held seen piece window len is.0 under at.reads.0 same front more)
    ] in
    let split : len ≡ length held + (len - length held) = omega arith in
    let cut = length-take-le len seen fits in
    let kept : length (take len seen) ≡ len = cut in
    let P : ℕ → Type 0 = λ n. All (IsHeaderWithin n) (take found.headers room) in
    record {
      head = is.0;
      form = record { form = at.reads.0; short = omega arith };
      some = omega arith;
      inside = omega arith;
      new_is = ap (take len) same ∙ ap (λ (n : ℕ). take n (held ++ take window piece)) split
          ∙ take-append-add held (take window piece) (len - length held)
          ∙ ap (λ (t : List ℕ). held ++ t) (take-take (len - length held) window piece (omega arith))
          ∙ ap (λ (n : ℕ). held ++ take n piece) (sym used_is);
      print = front;
      code = at.code;
      count = within.section.count_fits;
      within = subst P (sym kept) within.section.headers_fit;
      headers = all_within seen len (take found.headers room) (recursion_from_All (IsHeaderWithin len) (take found.headers room) within.section.headers_fit) ∙ at.fields;
    }

-- ---- or at fault

pub head_refused : (held seen piece : List ℕ) (window : ℕ) (fault : WireFault) → seen ≡ held ++ take window piece → HasHeadFault seen fault
    → HasHeadFault (held ++ piece) fault
head_refused held seen piece window fault same bad =
    let P : List ℕ → Type 0 = λ t. HasHeadFault t fault in
    let behind : seen ++ drop window piece ≡ held ++ piece =
    ap (λ (t : List ℕ). t ++ drop window piece) same ∙ behind_all held piece window in
    subst P behind (head_fault_stays seen (drop window piece) fault bad)

-- ---- room of the same size

pub whole_room : (len : ℕ) (new old : List HeaderSpan) → len ≡ length new → length new ≡ length old → take len (new ++ drop (length new) old) ≡ new
whole_room len new old len_is same =
    let whole : new ++ drop (length new) old ≡ new = ap (λ (t : List HeaderSpan). new ++ t) (drop_all (length new) old (omega arith)) ∙ append-nil new in
    ap (take len) whole ∙ take_all len new (omega arith)
