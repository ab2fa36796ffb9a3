-- What is printed reads again as the same value.
use Rattle.std.proofs.Common.{◌≡◌, ◌<◌, ◌≤◌, ◌+◌, ◌*◌, ◌^◌, ◌∙◌, ◌∷◌, ◌++◌, [], ℕ, List, Bool, true, false, length, take, drop, map, arith, ap, sym, subst, refl, nat_eq, nat_lt, length-append}
use Rattle.std.specs.Prelude.{decimal}
use Rattle.std.specs.Int.{IsInRange}
use Rattle.std.specs.List.{All, AllByRecursion, before_first, after_first, position_or_len}
use Rattle.std.specs.Str.Parse.{AllDigits, IsNumeral, digits_value}
use Rattle.std.proofs.Math.Seq.{drop-append-add, get_or-append_seam, take-append_seam}
use Rattle.std.proofs.lemmas.List.{get_or_append_left}
use Rattle.std.proofs.lemmas.List.Elements.{All-append, All-cons, All-nil}
use Rattle.std.proofs.lemmas.List.Sums.{position_or_len_is}
use Rattle.std.proofs.lemmas.Bool.Decides.{nat_tests}
use Rattle.std.proofs.lemmas.Fmt.{decimal_is_IsNumeral, length-decimal-le}
use Rattle.std.proofs.lemmas.List.Splits.{slice_split_at, slice_split_none}
use Rattle.std.proofs.lemmas.Str.Parse.{digit_from_value}
use Rattle.ld_num.specs.Written.{Whole, Quotient, Plain, stroke}
use Rattle.ld_num.specs.Shape.{has}
use Rattle.ld_num.specs.declared.fraction.Frac.{Frac}
use Rattle.ld_segment.specs.Values.{ArePoints, IsPoint, colon, comma, segment_values, sequence_values}
use Rattle.ld_segment.specs.Printed.{IsShort, point_text, segment_text, sequence_text}

-- a number of nine digits at most
pub record IsText (n : ℕ) (text : List ℕ) : Type 0 where
  pub numeral : IsNumeral 10 text
  pub value : digits_value 10 text ≡ n
  pub short : length text ≤ 9

number_text : (n : ℕ) → n < 10 ^ 9 → IsText n (decimal n)
number_text n small =
    let fits : n < 2 ^ 64 = omega arith in
    let numeral = decimal_is_IsNumeral n fits in
    record { numeral = numeral.0; value = numeral.1; short = length-decimal-le 9 n (omega arith) small fits }

whole_point : (p : Frac) (text : List ℕ) → p.den ≡ 1 → IsText p.num text → IsPoint text p
whole_point p text one is =
    let value = is.value in (
      Plain (Whole text),
      record { spelled = refl; in_digits = is.numeral },
      record {
        in_digits = is.numeral;
        short = is.short;
        positive = omega arith;
        same = (let e : p.num * 1 ≡ digits_value 10 text * p.den = rw (value, one) in e);
      },
    )

quotient_point : (p : Frac) (over under : List ℕ) → IsText p.num over → IsText p.den under → IsPoint (over ++ stroke ∷ under) p
quotient_point p over under is_num is_den =
    let num = is_num.value in
    let den = is_den.value in
    let over_short = is_num.short in
    let under_short = is_den.short in
    let some = p.positive in (
      Quotient over under,
      record { spelled = refl; in_digits = (is_num.numeral, is_den.numeral) },
      record {
        in_digits = (is_num.numeral, is_den.numeral);
        short = omega arith;
        positive = omega arith;
        same = (let e : p.num * digits_value 10 under ≡ digits_value 10 over * p.den = rw (num, den) in e);
      },
    )

eq_from : (m n : ℕ) → nat_eq m n ≡ true → m ≡ n
eq_from m n is = grind (arith, nat_tests)

pub printed_point : (p : Frac) → IsShort p → IsPoint (point_text p) p
printed_point p short = decided (nat_eq p.den 1) refl
  where
    decided : (b : Bool) → nat_eq p.den 1 ≡ b → IsPoint (point_text p) p
    decided true is = rw is (whole_point p (decimal p.num) (eq_from p.den 1 is) (number_text p.num short.num))
    decided false is = rw is (quotient_point p (decimal p.num) (decimal p.den) (number_text p.num short.num) (number_text p.den short.den))

-- a byte doesn't stand in a text
abbrev pub Lacks : ℕ → List ℕ → Type 0
Lacks mark text = All (λ b. nat_eq b mark ≡ false) text

-- no byte of a number, and no stroke
abbrev IsOutside : ℕ → Type 0
IsOutside mark = IsInRange 47 57 mark → ⊥

differs : (c mark : ℕ) → IsInRange 48 57 c → IsOutside mark → nat_eq c mark ≡ false
differs c mark inside outside = grind (arith, nat_tests)

stroke_differs : (mark : ℕ) → IsOutside mark → nat_eq stroke mark ≡ false
stroke_differs mark outside = grind (arith, nat_tests)

digits_lack : (mark : ℕ) (digits : List ℕ) → IsOutside mark → AllDigits 10 digits → Lacks mark digits
digits_lack mark [] outside all = All-nil (λ b. nat_eq b mark ≡ false)
digits_lack mark (c ∷ cs) outside all =
    All-cons (λ b. nat_eq b mark ≡ false) c cs (differs c mark (digit_from_value c all.0) outside) (digits_lack mark cs outside all.1)

quotient_lacks : (mark : ℕ) (over under : List ℕ) → IsOutside mark → AllDigits 10 over → AllDigits 10 under →
    Lacks mark (over ++ stroke ∷ under)
quotient_lacks mark over under outside of_over of_under =
    All-append (λ b. nat_eq b mark ≡ false) over (stroke ∷ under) (digits_lack mark over outside of_over)
    (All-cons (λ b. nat_eq b mark ≡ false) stroke under (stroke_differs mark outside) (digits_lack mark under outside of_under))

point_lacks : (mark : ℕ) (p : Frac) → IsOutside mark → IsShort p → Lacks mark (point_text p)
point_lacks mark p outside short = decided (nat_eq p.den 1) refl
  where
    decided : (b : Bool) → nat_eq p.den 1 ≡ b → Lacks mark (point_text p)
    decided true is = rw is (digits_lack mark (decimal p.num) outside (number_text p.num short.num).numeral.1)
    decided false is =
        rw is
        (quotient_lacks mark (decimal p.num) (decimal p.den) outside
        (number_text p.num short.num).numeral.1 (number_text p.den short.den).numeral.1)

eq_test : (n : ℕ) → nat_eq n n ≡ true
eq_test n = grind (arith, nat_tests)

lt_test : (m n : ℕ) → m < n → nat_lt m n ≡ true
lt_test m n below = grind (arith, nat_tests)

-- behind a text without it a byte is found right there
found_behind : (mark : ℕ) (a b : List ℕ) → Lacks mark a → position_or_len (λ c. nat_eq c mark) (a ++ mark ∷ b) ≡ length a
found_behind mark a b lacks =
    let long = length-append a (mark ∷ b) in
    position_or_len_is (λ c. nat_eq c mark) (a ++ mark ∷ b) (length a) 0 (omega arith)
    (λ k below. ap (λ c. nat_eq c mark) (get_or_append_left a (mark ∷ b) 0 k below) ∙ lacks k 0 below)
    (λ _. ap (λ c. nat_eq c mark) (get_or-append_seam a mark b 0) ∙ eq_test mark)

values_of_two : (a b : List ℕ) → Lacks colon a → segment_values (a ++ colon ∷ b) ≡ a ∷ b ∷ []
values_of_two a b lacks =
    let there = found_behind colon a b lacks in
    let long = length-append a (colon ∷ b) in
    let has_one : has colon (a ++ colon ∷ b) ≡ true = lt_test _ _ (omega arith) in
    let before : before_first (λ c. nat_eq c colon) (a ++ colon ∷ b) ≡ a =
    ap (λ n. take n (a ++ colon ∷ b)) there ∙ take-append_seam a (colon ∷ b) in
    let after : after_first (λ c. nat_eq c colon) (a ++ colon ∷ b) ≡ b =
    ap (λ n. drop (n + 1) (a ++ colon ∷ b)) there ∙ drop-append-add a (colon ∷ b) 1 in
    rw (has_one, before, after)

pub segment_reads : (p q : Frac) → IsShort p → IsShort q → ArePoints (segment_values (segment_text p q)) (p ∷ q ∷ [])
segment_reads p q p_short q_short =
    subst (λ values. ArePoints values (p ∷ q ∷ []))
    (sym (values_of_two (point_text p) (point_text q) (point_lacks colon p (λ inside. omega arith) p_short)))
    (printed_point p p_short, (printed_point q q_short, tt))

values_of_all : (ps : List Frac) → 0 < length ps → AllByRecursion IsShort ps → sequence_values (sequence_text ps) ≡ map point_text ps
values_of_all [] some short = absurd (omega arith)
values_of_all (p ∷ []) some short =
    slice_split_none (λ b. nat_eq b comma) (point_text p) (point_lacks comma p (λ inside. omega arith) short.0)
values_of_all (p ∷ q ∷ ps) some short =
    slice_split_at (λ b. nat_eq b comma) (point_text p) comma (sequence_text (q ∷ ps)) (point_lacks comma p (λ inside. omega arith) short.0) refl
    ∙ ap (λ (values : List (List ℕ)). point_text p ∷ values) (values_of_all (q ∷ ps) (omega arith) short.1)

printed_points : (ps : List Frac) → AllByRecursion IsShort ps → ArePoints (map point_text ps) ps
printed_points [] short = tt
printed_points (p ∷ ps) short = (printed_point p short.0, printed_points ps short.1)

pub sequence_reads : (ps : List Frac) → 0 < length ps → AllByRecursion IsShort ps → ArePoints (sequence_values (sequence_text ps)) ps
sequence_reads ps some short =
    subst (λ values. ArePoints values ps) (sym (values_of_all ps some short)) (printed_points ps short)
