-- The text of a request is read back by the grammar of heads.
use Rattle.std.proofs.Common.{◌≡◌, ◌<◌, ◌+◌, ◌/◌, ◌%◌, ◌∙◌, ◌∷◌, ◌++◌, [], ℕ, zero, suc, Bool, true, false, IsTrue, List, length, get_or, cond, map, arith, ap, refl, sym, append_assoc, nat_eq, nat_lt, codes}
use Rattle.std.proofs.Math.Nat.{mod-lt}
use Rattle.std.proofs.lemmas.Bool.Decides.{nat_tests}
use Rattle.std.proofs.lemmas.List.Elements.{All-append, All-cons, All-from_recursion, All-map, All-nil}
use Rattle.std.proofs.lemmas.List.Sorted.{All-permutation}
use Rattle.std.proofs.lemmas.Str.{IsUtf8-from_ascii}
use Rattle.std.proofs.lemmas.Str.Ascii.{IsAscii-from_all}
use Rattle.std.specs.Fmt.{digit_glyph, digits, digits_onto}
use Rattle.std.specs.List.{AllByRecursion, concat, flat_map}
use Rattle.std.specs.Prelude.{All, IsUtf8, decimal}
use Rattle.httparse.proofs.GrammarLemmas.{cons-append, print_request-append, request_unique}
use Rattle.httparse.specs.Ascii.{crlf_bytes}
use Rattle.httparse.specs.Grammar.{AllPass, IsField, IsRequestHead, IsToken, ReadsRequest, RequestHead, crlf, is_token_byte, is_uri_byte, is_value_byte, print_field, print_request, print_section, trim_ows}
use Rattle.httparse.specs.Spans.{name_and_value}
use Rattle.ld_base.specs.declared.request.RequestSpec.{RequestSpec}
use Rattle.ld_wire.specs.Order.{Header, in_order}
use Rattle.ld_wire.specs.Reading.{IsPlainHeader, IsPlainSpec, IsPrintable, IsVisible, as_read, field_of, head_of}
use Rattle.ld_wire.specs.Request.{content_of, ended, ended_header, length_headers, request_line, request_text, sent_headers, tells_length}
use Rattle.ld_wire.proofs.OrderLemmas.{has_all}

-- ---- bytes

visible_uri : (b : ℕ) → IsVisible b → IsTrue (is_uri_byte b)
visible_uri b visible =
    let low = visible.0 in
    let high = visible.1 in
    grind (arith, nat_tests)

printable_value : (b : ℕ) → IsPrintable b → IsTrue (is_value_byte b)
printable_value b printable =
    let low = printable.0 in
    let high = printable.1 in
    grind (arith, nat_tests)

uri_bytes : (text : List ℕ) → All IsVisible text → AllPass is_uri_byte text
uri_bytes text visible k d below = visible_uri (get_or text k d) (visible k d below)

value_bytes : (text : List ℕ) → All IsPrintable text → AllPass is_value_byte text
value_bytes text printable k d below = printable_value (get_or text k d) (printable k d below)

visible_utf8 : (text : List ℕ) → All IsVisible text → IsUtf8 text
visible_utf8 text visible =
    IsUtf8-from_ascii text (IsAscii-from_all text (λ k d below. let high = (visible k d below).1 in omega arith))

-- ---- the digits of a number

digit_printable : (below : Bool) (d : ℕ) → d < 10 → nat_lt d 10 ≡ below → IsPrintable (cond below (48 + d) (87 + d))
digit_printable true d small is = (omega arith, omega arith)
digit_printable false d small is = (omega arith, omega arith)

onto_printable : (k n : ℕ) (rest : List ℕ) → AllByRecursion IsPrintable rest → AllByRecursion IsPrintable (digits_onto k 10 false n rest)
onto_printable zero n rest printable = printable
onto_printable (suc k) n rest printable =
    let glyph = digit_glyph false (n % 10) in
    let first = digit_printable (nat_lt (n % 10) 10) (n % 10) (mod-lt n (omega arith)) refl in
    let more : AllByRecursion IsPrintable (glyph ∷ rest) = (first, printable) in
    elim (nat_eq (n / 10) 0) as (λ b. AllByRecursion IsPrintable (cond b (glyph ∷ rest) (digits_onto k 10 false (n / 10) (glyph ∷ rest)))) [
      | true ↦ more
      | false ↦ onto_printable k (n / 10) (glyph ∷ rest) more
    ]

decimal_printable : (n : ℕ) → All IsPrintable (decimal n)
unfolding digits
decimal_printable n = All-from_recursion IsPrintable (decimal n) (onto_printable 64 n [] tt)

-- ---- the headers that are sent

-- their names are tokens
host_token : IsToken (codes "Host")
unfolding is_token_byte
host_token = (omega arith, All-from_recursion (λ b. IsTrue (is_token_byte b)) (codes "Host") (refl, (refl, (refl, (refl, tt)))))

connection_token : IsToken (codes "Connection")
unfolding is_token_byte
connection_token =
    let bytes = All-from_recursion (λ b. IsTrue (is_token_byte b)) (codes "Connection") in
    (omega arith, bytes (refl, (refl, (refl, (refl, (refl, (refl, (refl, (refl, (refl, (refl, tt)))))))))))

length_token : IsToken (codes "Content-Length")
unfolding is_token_byte
length_token = (
  omega arith,
  All-from_recursion (λ b. IsTrue (is_token_byte b)) (codes "Content-Length")
      (refl, (refl, (refl, (refl, (refl, (refl, (refl, (refl, (refl, (refl, (refl, (refl, (refl, (refl, tt)))))))))))))),
)

close_printable : All IsPrintable (codes "close")
close_printable =
    All-from_recursion IsPrintable (codes "close") (
      (omega arith, omega arith),
      (
        (omega arith, omega arith),
        (
          (omega arith, omega arith),
          ((omega arith, omega arith), ((omega arith, omega arith), tt)),
        ),
      ),
    )

told_plain : (spec : RequestSpec) → All IsPlainHeader (length_headers spec)
told_plain spec =
    let header : Header = (codes "Content-Length", decimal (length (content_of spec))) in
    elim (tells_length spec) as (λ b. All IsPlainHeader (cond b (header ∷ []) [])) [
      | true ↦ All-cons IsPlainHeader header [] (length_token, decimal_printable (length (content_of spec))) (All-nil IsPlainHeader)
      | false ↦ All-nil IsPlainHeader
    ]

sent_plain : (spec : RequestSpec) → IsPlainSpec spec → All IsPlainHeader (sent_headers spec)
sent_plain spec plain =
    let host : Header = (codes "Host", spec.authority) in
    let closes : Header = (codes "Connection", codes "close") in
    let own = in_order spec.headers in
    let told = length_headers spec in
    let own_plain = All-permutation IsPlainHeader spec.headers own (has_all spec.headers) plain.headers in
    All-cons IsPlainHeader host (closes ∷ (own ++ told)) (host_token, plain.authority)
    (All-cons IsPlainHeader closes (own ++ told) (connection_token, close_printable)
    (All-append IsPlainHeader own told own_plain (told_plain spec)))

plain_field : (h : Header) → IsPlainHeader h → IsField (field_of h)
plain_field h plain = record {
  name = plain.0;
  raw = All-cons (λ b. IsTrue (is_value_byte b)) 32 h.1 refl (value_bytes h.1 plain.1);
}

plain_fields : (hs : List Header) → All IsPlainHeader hs → All IsField (map field_of hs)
plain_fields hs plain = All-map IsField field_of hs (λ k d below. plain_field (get_or hs k d) (plain k d below))

-- ---- the head

head_plain : (spec : RequestSpec) → IsPlainSpec spec → IsRequestHead (head_of spec)
head_plain spec plain = record {
  method = plain.method;
  target = (plain.target.0, uri_bytes spec.target plain.target.1);
  target_text = visible_utf8 spec.target plain.target.1;
  minor = omega arith;
  fields = plain_fields (sent_headers spec) (sent_plain spec plain);
}

field_text : (h : Header) → ended_header h ≡ print_field (field_of h)
field_text h = ap (λ t. t ++ crlf_bytes) (append_assoc h.0 (58 ∷ 32 ∷ []) h.1)

section_text : (hs : List Header) → concat (map ended_header hs ++ ended [] ∷ []) ≡ print_section (map field_of hs) crlf
section_text [] = refl
section_text (h ∷ hs) =
    ap (λ t. t ++ concat (map ended_header hs ++ ended [] ∷ [])) (field_text h)
    ∙ ap (λ t. print_field (field_of h) ++ t) (section_text hs)
    ∙ sym (append_assoc (print_field (field_of h)) (flat_map print_field (map field_of hs)) crlf_bytes)

regroup : (m t v e s c : List ℕ) → (((m ++ 32 ∷ (t ++ 32 ∷ v)) ++ e) ++ s) ++ c ≡ m ++ 32 ∷ (t ++ 32 ∷ (v ++ (e ++ (s ++ c))))
regroup m t v e s c = simp (append_assoc, cons-append)

text_is : (spec : RequestSpec) → request_text spec ≡ print_request (head_of spec) ++ content_of spec
text_is spec =
    ap (λ s. (ended (request_line spec) ++ s) ++ content_of spec) (section_text (sent_headers spec))
    ∙ regroup spec.method spec.target (codes "HTTP/1.1") crlf_bytes (print_section (map field_of (sent_headers spec)) crlf) (content_of spec)
    ∙ sym (print_request-append (head_of spec) (content_of spec))

pub read_back : (spec : RequestSpec) → IsPlainSpec spec → ReadsRequest (request_text spec) (head_of spec) (content_of spec)
read_back spec plain = (head_plain spec plain, text_is spec)

pub read_alone : (spec : RequestSpec) (head : RequestHead) (rest : List ℕ) → IsPlainSpec spec → ReadsRequest (request_text spec) head rest →
    (head ≡ head_of spec) × (rest ≡ content_of spec)
read_alone spec head rest plain reads =
    request_unique (request_text spec) head (head_of spec) rest (content_of spec) reads (read_back spec plain)

-- ---- what is read of the headers

value_read : (value : List ℕ) → trim_ows (32 ∷ value) ≡ trim_ows value
unfolding trim_ows
value_read value = refl

pub headers_read : (hs : List Header) → map name_and_value (map field_of hs) ≡ map as_read hs
headers_read [] = refl
headers_read (h ∷ hs) = ap (λ value. (h.0, value) ∷ map name_and_value (map field_of hs)) (value_read h.1) ∙ ap (λ l. as_read h ∷ l) (headers_read hs)
