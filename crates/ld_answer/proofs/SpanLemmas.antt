-- A text of digits and a unit is a duration of one length.
use Rattle.std.proofs.Common.{◌≡◌, ◌<◌, ◌≤◌, ◌+◌, ◌*◌, ◌∙◌, ◌∷◌, ◌++◌, [], inl, inr, ℕ, List, Some, true, false, length, take, drop, arith, ap, sym, subst, refl, append-nil, decimal, nat_eq, lit<}
use Rattle.std.specs.Prelude.{◌/◌, ◌%◌, ◌^◌, ◌↔◌, ◌⊎◌, Option, Result, Ok, Err, codes, sum_by}
use Rattle.std.specs.Int.{IsInRange}
use Rattle.std.specs.List.{AllByRecursion, list_all, position_or_len}
use Rattle.std.specs.Str.Parse.{AllDigits, digits_value}
use Rattle.std.proofs.Math.ListN.{drop_of_length-le}
use Rattle.std.proofs.Math.Nat.{mul-div_cancel, mul-mod_left}
use Rattle.std.proofs.Math.Seq.{take-length}
use Rattle.std.proofs.lemmas.Bool.Decides.{nat_tests}
use Rattle.std.proofs.lemmas.Fmt.{decimal_is_IsNumeral, decimal_nonempty, length-decimal-le}
use Rattle.std.proofs.lemmas.Str.Parse.{digit_from_value}
use Rattle.ld_num.specs.Duration.{IsDuration, IsNumber, Term, is_known, is_number_byte, is_short, is_whole, part_of, term_length, unit_length, whole_of}
use Rattle.ld_num.specs.Written.{point}
use Rattle.ld_num.proofs.DurationLemmas.{not_refused_duration, one_duration}
use Rattle.ld_json.specs.Node.{NodeView}
use Rattle.ld_json.specs.Pointer.{member_path}
use Rattle.ld_options.specs.Faults.{of_script}
use Rattle.ld_options.specs.Times.{RefusesTime}
use Rattle.ld_options.specs.declared.fault.OptionsFault.{OptionsFault}
use Rattle.ld_options.specs.declared.fault.OptionsFault.TheVariants as faults
use Rattle.ld_script.specs.Fault.{Refused}
use Rattle.ld_script.specs.Fields.{given}
use Rattle.ld_script.specs.Ranges.{IsWithin}
use Rattle.ld_script.specs.Times.{IsSpan, RefusesSpan, span_text}
use Rattle.ld_script.specs.declared.fault.ScriptFault.{ScriptFault}
use Rattle.ld_script.specs.declared.fault.ScriptFault.TheVariants as script
use Rattle.ld_script.specs.declared.range.Range.{Range}
use Rattle.ld_words.specs.RateTest.{duration_text}

differs : (c : ℕ) → IsInRange 48 57 c → nat_eq c point ≡ false
differs c inside = grind (arith, nat_tests)

no_point : (digits : List ℕ) → AllDigits 10 digits → position_or_len (λ b. nat_eq b point) digits ≡ length digits
no_point [] all = refl
no_point (c ∷ cs) all = let rest = no_point cs all.1 in rw (differs c (digit_from_value c all.0)) (omega arith)

whole_is : (digits : List ℕ) → AllDigits 10 digits → whole_of digits ≡ digits
whole_is digits all = ap (λ n. take n digits) (no_point digits all) ∙ take-length digits

part_is : (digits : List ℕ) → AllDigits 10 digits → part_of digits ≡ []
part_is digits all = ap (λ n. drop (n + 1) digits) (no_point digits all) ∙ drop_of_length-le digits (omega arith)

number_is : (digits : List ℕ) → AllDigits 10 digits → 0 < length digits → IsNumber digits
number_is digits all some = record {
  whole = rw (whole_is digits all) all;
  part = rw (part_is digits all) tt;
  some = rw (whole_is digits all) (omega arith);
}

-- digits of a number
record AreDigits (digits : List ℕ) (n : ℕ) : Type 0 where
  some : 0 < length digits
  all : AllDigits 10 digits
  value : digits_value 10 digits ≡ n

-- a unit of so many nanoseconds
record IsUnit (unit : List ℕ) (factor : ℕ) : Type 0 where
  some : 0 < length unit
  bytes : AllByRecursion (λ b. is_number_byte b ≡ false) unit
  long : unit_length unit ≡ Some factor

abbrev term : List ℕ → List ℕ → Term
term digits unit = record { number = digits; unit = unit }

duration_is : (digits unit : List ℕ) (n factor : ℕ) → AreDigits digits n → IsUnit unit factor → IsDuration (digits ++ unit) (term digits unit ∷ [])
duration_is digits unit n factor are is = inl (record {
  list = record {
    spelled = sym (append-nil (digits ++ unit));
    each = (record { number = number_is digits are.all are.some; some = is.some; unit = is.bytes }, tt);
  };
  some = lit< tt;
})

length_is : (digits unit : List ℕ) (n factor : ℕ) → AreDigits digits n → IsUnit unit factor → sum_by term_length (term digits unit ∷ []) ≡ (n * factor) * 10 ^ 9
length_is digits unit n factor are is =
    rw (whole_is digits are.all, part_is digits are.all, are.value, is.long) (omega arith)

span_is : (digits unit : List ℕ) (n factor k : ℕ) → AreDigits digits n → IsUnit unit factor → IsSpan (digits ++ unit) k → k ≡ n * factor
span_is digits unit n factor k are is span =
    span.2.sum
    ∙ ap (λ ts. sum_by term_length ts / 10 ^ 9)
    (one_duration (digits ++ unit) span.0 (term digits unit ∷ []) span.1 (duration_is digits unit n factor are is))
    ∙ ap (λ x. x / 10 ^ 9) (length_is digits unit n factor are is)
    ∙ mul-div_cancel (n * factor) (lit< tt)

nanoseconds : IsUnit (codes "ns") 1
nanoseconds = record { some = lit< tt; bytes = (refl, (refl, tt)); long = refl }

seconds : IsUnit (codes "s") 1000000000
seconds = record { some = lit< tt; bytes = (refl, tt); long = refl }

-- a duration of a test by options
pub text_span : (n k : ℕ) → n < 2 ^ 64 → IsSpan (duration_text n) k → k ≡ n
text_span n k small span =
    let is = decimal_is_IsNumeral n small in
    let once : k ≡ n * 1 = span_is (decimal n) (codes "ns") n 1 k (record { some = decimal_nonempty n small; all = is.0.1; value = is.1 }) nanoseconds span in
    omega arith

-- the begin and the grace where none is given
pub begin_span : (k : ℕ) → IsSpan (codes "0s") k → k ≡ 0
begin_span k span = span_is (codes "0") (codes "s") 0 1000000000 k (record { some = lit< tt; all = (lit< tt, tt); value = refl }) seconds span

pub grace_span : (k : ℕ) → IsSpan (codes "30s") k → k ≡ 30000000000
grace_span k span = span_is (codes "30") (codes "s") 30 1000000000 k (record { some = lit< tt; all = (lit< tt, (lit< tt, tt)); value = refl }) seconds span

-- ---- and it is one: a field with this text is refused just where it is out of range

whole_length_is : (digits unit : List ℕ) (n factor : ℕ) → AreDigits digits n → IsUnit unit factor → term_length (term digits unit) ≡ (n * factor) * 10 ^ 9
whole_length_is digits unit n factor are is =
    rw (whole_is digits are.all, part_is digits are.all, are.value, is.long) (omega arith)

known_is : (digits unit : List ℕ) (factor : ℕ) → IsUnit unit factor → list_all is_known (term digits unit ∷ []) ≡ true
known_is digits unit factor is = rw is.long refl

short_is : (digits unit : List ℕ) → AllDigits 10 digits → length digits ≤ 16 → list_all is_short (term digits unit ∷ []) ≡ true
short_is digits unit all short = rw (whole_is digits all, part_is digits all) (grind (arith, nat_tests))

even_is : (x k : ℕ) → x ≡ k * 10 ^ 9 → nat_eq (x % 10 ^ 9) 0 ≡ true
even_is x k is = rw (is, mul-mod_left k (10 ^ 9)) refl

exact_is : (digits unit : List ℕ) (n factor : ℕ) → AreDigits digits n → IsUnit unit factor → list_all is_whole (term digits unit ∷ []) ≡ true
exact_is digits unit n factor are is =
    rw (even_is (term_length (term digits unit)) (n * factor) (whole_length_is digits unit n factor are is)) refl

is_span : (digits unit : List ℕ) (n factor : ℕ) → AreDigits digits n → IsUnit unit factor → length digits ≤ 16 → n * factor ≤ 2592000000000000 →
    IsSpan (digits ++ unit) (n * factor)
is_span digits unit n factor are is short small =
    let long = length_is digits unit n factor are is in (
      term digits unit ∷ [],
      duration_is digits unit n factor are is,
      record {
        known = known_is digits unit factor is;
        short = short_is digits unit are.all short;
        small = omega (arith, long, small);
        whole = exact_is digits unit n factor are is;
        sum = sym (ap (λ x. x / 10 ^ 9) long ∙ mul-div_cancel (n * factor) (lit< tt));
      },
    )

pub text_is_span : (n : ℕ) → n ≤ 2592000000000000 → IsSpan (duration_text n) n
text_is_span n small =
    let little : n < 2 ^ 64 = omega arith in
    let is = decimal_is_IsNumeral n little in
    let same : n * 1 ≡ n = omega arith in
    subst (IsSpan (duration_text n)) same
    (is_span (decimal n) (codes "ns") n 1 (record { some = decimal_nonempty n little; all = is.0.1; value = is.1 }) nanoseconds
    (length-decimal-le 16 n (lit< tt) (omega arith) little) (omega arith))

pub begin_is_span : IsSpan (codes "0s") 0
begin_is_span = is_span (codes "0") (codes "s") 0 1000000000 (record { some = lit< tt; all = (lit< tt, tt); value = refl }) seconds (omega arith) (omega arith)

pub grace_is_span : IsSpan (codes "30s") 30000000000
grace_is_span = is_span (codes "30") (codes "s") 30 1000000000 (record { some = lit< tt; all = (lit< tt, (lit< tt, tt)); value = refl }) seconds (omega arith) (omega arith)

abbrev Texts : Type 0
Texts = Result (List ℕ) ScriptFault

same_text : (answer : Texts) (a b : List ℕ) → answer ≡ Ok a → answer ≡ Ok b → a ≡ b
same_text answer a b of_a of_b = cc

never_refused : (answer : Texts) (text : List ℕ) (fault : ScriptFault) → answer ≡ Ok text → answer ≡ Err fault → ⊥
never_refused answer text fault holds refused = cc

-- a text that is a span of one length is refused where that is out of range
span_refused : (range : Range) (path text : List ℕ) (n : ℕ) (fault : ScriptFault) → 0 < length text → IsSpan text n → ((k : ℕ) → IsSpan text k → k ≡ n) →
    RefusesSpan range path text fault → (IsWithin range.least range.most n → ⊥) × (fault ≡ script.Range path)
span_refused range path text n fault some span once (inl (cause, refusal, is)) = absurd (not_refused_duration text span.0 n some span.1 span.2 cause refusal)
span_refused range path text n fault some span once (inr (k, other, outside, is)) =
    (subst (λ m. IsWithin range.least range.most m → ⊥) (once k other) outside, is)

text_refused : (answer : Texts) (range : Range) (path text : List ℕ) (n : ℕ) (fault : ScriptFault) →
    answer ≡ Ok text → 0 < length text → IsSpan text n → ((k : ℕ) → IsSpan text k → k ≡ n) →
    Refused answer fault ⊎ ((t : List ℕ) × (answer ≡ Ok t) × RefusesSpan range path t fault) →
    (IsWithin range.least range.most n → ⊥) × (fault ≡ script.Range path)
text_refused answer range path text n fault holds some span once (inl refused) = absurd (never_refused answer text fault holds refused)
text_refused answer range path text n fault holds some span once (inr (t, is, refuses)) =
    span_refused range path text n fault some span once (subst (λ x. RefusesSpan range path x fault) (same_text answer t text is holds) refuses)

-- a field whose text is a span is refused where that is out of range
pub time_refused : (range : Range) (default : Option (List ℕ)) (node : NodeView) (name text : List ℕ) (n : ℕ) (fault : OptionsFault) →
    given span_text default node name ≡ Ok text → 0 < length text → IsSpan text n → ((k : ℕ) → IsSpan text k → k ≡ n) →
    RefusesTime range default node name fault ↔ ((IsWithin range.least range.most n → ⊥) × (fault ≡ faults.Range (member_path node.path name)))
time_refused range default node name text n fault holds some span once = (
  λ refuses.
      let out = text_refused (given span_text default node name) range (member_path node.path name) text n refuses.0 holds some span once refuses.1.refused in
      (out.0, refuses.2 ∙ ap of_script out.1),
  λ out. (script.Range (member_path node.path name), record { refused = inr (text, holds, inr (n, span, out.0, refl)) }, out.1),
)
