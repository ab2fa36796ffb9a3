-- Values, and the points that they are written for.
use Rattle.std.proofs.Common.{◌≡◌, ◌<◌, ◌+◌, ◌*◌, ◌∙◌, ◌∷◌, ◌++◌, [], ℕ, zero, suc, List, Bor, length, get_or, take, map, arith, ap, ap₂, sym, subst, refl, append_assoc}
use Rattle.std.specs.Prelude.{Some, Ok, slice_get}
use Rattle.std.specs.Str.Parse.{IsNumeral}
use Rattle.std.specs.Option.{option_map}
use Rattle.std.proofs.lemmas.List.{length-map}
use Rattle.std.proofs.lemmas.Option.{get_or_from_slice_get, slice_get-get_or, slice_get-map}
use Rattle.std.proofs.Math.Nat.{eq_of_mul-eq-mul_left}
use Rattle.std.proofs.lemmas.Str.Parse.{digit_at}
use Rattle.ld_num.specs.Written.{Amount, Whole, Decimal, Written, Quotient, Plain, Percentage, AmountInDigits, InDigits, amount_spelling, spelling, numerator, denominator, point, stroke, percent_sign}
use Rattle.ld_num.specs.Reading.{IsValueOf, IsRefusal}
use Rattle.ld_num.specs.declared.fraction.Frac.{Frac}
use Rattle.ld_num.specs.declared.fault.NumFault.{NumFault}
use Rattle.ld_num.proofs.FractionLemmas.{same_denominator, same_numerator}
use Rattle.ld_num.proofs.ShapeLemmas.{has_shape}
use Rattle.ld_num.proofs.ReadingLemmas.{accepted}
use Rattle.ld_segment.specs.Values.{ArePoints, IsPoint, IsSigned, minus}
use Rattle.ld_segment.specs.Refusal.{RefusesFirst, RefusesValue}
use Rattle.ld_segment.specs.declared.fault.SegmentFault.{SegmentFault}
use Rattle.ld_segment.specs.declared.fault.SegmentFault.TheVariants.{Number, BelowZero, NotLess, AboveOne, Gap, FewPoints, PeriodTooLarge, TooMany, Memory}
use Rattle.ld_segment.proofs.PointLemmas.{same_point}

-- two points of one value have the same numbers
same_value : (p q : Frac) (num den : ℕ) → 0 < den → p.num * den ≡ num * p.den → q.num * den ≡ num * q.den →
    p.num * q.den ≡ q.num * p.den
same_value p q num den positive of_p of_q =
    eq_of_mul-eq-mul_left den positive (p.num * q.den) (q.num * p.den)
    (let left : den * (p.num * q.den) ≡ p.num * den * q.den = omega arith in
    let right : den * (q.num * p.den) ≡ q.num * den * p.den = omega arith in
    let middle : num * p.den * q.den ≡ num * q.den * p.den = omega arith in
    left ∙ ap (λ n. n * q.den) of_p ∙ middle ∙ ap (λ n. n * p.den) (sym of_q) ∙ sym right)

pub one_point_of : (value : List ℕ) (p q : Frac) → IsPoint value p → IsPoint value q → p ≡ q
one_point_of value p q of_p of_q =
    let written : of_p.0 ≡ of_q.0 = sym (has_shape value of_p.0 of_p.1) ∙ has_shape value of_q.0 of_q.1 in
    let is_q : IsValueOf of_p.0 q = subst (λ w. IsValueOf w q) (sym written) of_q.2 in
    let same = same_value p q (numerator of_p.0) (denominator of_p.0) of_p.2.positive of_p.2.same is_q.same in
    same_point p q
    (same_numerator p.num p.den q.num q.den p.positive q.positive p.lowest q.lowest same)
    (same_denominator p.num p.den q.num q.den p.positive q.positive p.lowest q.lowest same)

pub one_list_of_points : (values : List (List ℕ)) (ps qs : List Frac) → ArePoints values ps → ArePoints values qs → ps ≡ qs
one_list_of_points [] [] [] of_ps of_qs = refl
one_list_of_points [] [] (q ∷ qs) of_ps of_qs = absurd of_qs
one_list_of_points [] (p ∷ ps) qs of_ps of_qs = absurd of_ps
one_list_of_points (v ∷ vs) [] qs of_ps of_qs = absurd of_ps
one_list_of_points (v ∷ vs) (p ∷ ps) [] of_ps of_qs = absurd of_qs
one_list_of_points (v ∷ vs) (p ∷ ps) (q ∷ qs) of_ps of_qs =
    ap₂ (λ x xs. x ∷ xs) (one_point_of v p q of_ps.0 of_qs.0) (one_list_of_points vs ps qs of_ps.1 of_qs.1)

-- a number begins with a digit
run_begins : (digits more : List ℕ) → IsNumeral 10 digits → slice_get (digits ++ more) 0 ≡ Some minus → ⊥
run_begins [] more is signed = absurd (let some = is.0 in omega arith)
run_begins (d ∷ ds) more is signed =
    let digit = digit_at (d ∷ ds) 0 is.1 (omega arith) in
    let same : d ≡ minus = cc in
    absurd (omega arith)

run_alone : (digits : List ℕ) → IsNumeral 10 digits → slice_get digits 0 ≡ Some minus → ⊥
run_alone [] is signed = absurd (let some = is.0 in omega arith)
run_alone (d ∷ ds) is signed =
    let digit = digit_at (d ∷ ds) 0 is.1 (omega arith) in
    let same : d ≡ minus = cc in
    absurd (omega arith)

amount_begins : (amount : Amount) → AmountInDigits amount → slice_get (amount_spelling amount) 0 ≡ Some minus → ⊥
amount_begins (Whole digits) is signed = run_alone digits is signed
amount_begins (Decimal whole part) is signed = run_begins whole (point ∷ part) is.0 signed

percentage_begins : (amount : Amount) → AmountInDigits amount → slice_get (amount_spelling amount ++ percent_sign ∷ []) 0 ≡ Some minus → ⊥
percentage_begins (Whole digits) is signed = run_begins digits (percent_sign ∷ []) is signed
percentage_begins (Decimal whole part) is signed =
    run_begins whole (point ∷ part ++ percent_sign ∷ []) is.0
    (subst (λ t. slice_get t 0 ≡ Some minus) (append_assoc whole (point ∷ part) (percent_sign ∷ [])) signed)

number_begins : (written : Written) → InDigits written → slice_get (spelling written) 0 ≡ Some minus → ⊥
number_begins (Quotient over under) is signed = run_begins over (stroke ∷ under) is.0 signed
number_begins (Plain amount) is signed = amount_begins amount is signed
number_begins (Percentage amount) is signed = percentage_begins amount is signed

not_signed : (value : List ℕ) (p : Frac) → IsPoint value p → IsSigned value → ⊥
not_signed value p is signed =
    number_begins is.0 is.1.in_digits (subst (λ t. slice_get t 0 ≡ Some minus) is.1.spelled signed)

run_some : (digits more : List ℕ) → IsNumeral 10 digits → digits ++ more ≡ [] → ⊥
run_some [] more is none = absurd (let some = is.0 in omega arith)
run_some (d ∷ ds) more is none = cc

pub number_some : (written : Written) → InDigits written → spelling written ≡ [] → ⊥
number_some (Quotient over under) is none = run_some over (stroke ∷ under) is.0 none
number_some (Plain (Whole digits)) is none = let some = is.0 in let long : length digits ≡ 0 = ap length none in absurd (omega arith)
number_some (Plain (Decimal whole part)) is none = run_some whole (point ∷ part) is.0 none
number_some (Percentage (Whole digits)) is none = run_some digits (percent_sign ∷ []) is none
number_some (Percentage (Decimal whole part)) is none =
    run_some whole (point ∷ part ++ percent_sign ∷ []) is.0 (sym (append_assoc whole (point ∷ part) (percent_sign ∷ [])) ∙ none)

not_a_refusal : (value : List ℕ) (p : Frac) → IsPoint value p → (f : NumFault) → IsRefusal value f → ⊥
not_a_refusal value p is =
    accepted value (Ok p) (λ none. number_some is.0 is.1.in_digits (sym is.1.spelled ∙ none))
    (subst (λ w. IsValueOf w p) (sym (has_shape value is.0 is.1)) is.2)

pub value_not_refused : (value : List ℕ) (place : ℕ) (p : Frac) → IsPoint value p → (f : SegmentFault) → RefusesValue value place f → ⊥
value_not_refused value place p is (BelowZero at) refused = not_signed value p is refused.1
value_not_refused value place p is (Number at fault) refused = not_a_refusal value p is fault refused.2
value_not_refused value place p is (NotLess at) refused = refused
value_not_refused value place p is (AboveOne at) refused = refused
value_not_refused value place p is (Gap at) refused = refused
value_not_refused value place p is FewPoints refused = refused
value_not_refused value place p is (PeriodTooLarge period) refused = refused
value_not_refused value place p is TooMany refused = refused
value_not_refused value place p is Memory refused = refused

pub value_at : (values : List (List ℕ)) (ps : List Frac) (i : ℕ) (value : List ℕ) → ArePoints values ps →
    slice_get values i ≡ Some value → (p : Frac) × IsPoint value p
value_at [] ps i value are is = absurd (let e : ⊥ = cc in e)
value_at (v ∷ vs) [] i value are is = absurd are
value_at (v ∷ vs) (p ∷ ps) zero value are is = (p, subst (λ t. IsPoint t p) (let e : v ≡ value = cc in e) are.0)
value_at (v ∷ vs) (p ∷ ps) (suc i) value are is = value_at vs ps i value are.1 is

pub first_not_refused : (values : List (List ℕ)) (ps : List Frac) → ArePoints values ps → (f : SegmentFault) → RefusesFirst values f → ⊥
first_not_refused values ps are f refused =
    let found = value_at values ps refused.place refused.value are refused.stands in
    value_not_refused refused.value refused.place found.0 found.1 f refused.refused

-- one value more
pub points_more : (values : List (List ℕ)) (ps : List Frac) (i : ℕ) (p : Frac) → i < length values →
    ArePoints (take i values) ps → IsPoint (get_or values i []) p → ArePoints (take (suc i) values) (ps ++ p ∷ [])
points_more [] ps i p below are is = absurd (omega arith)
points_more (v ∷ vs) [] zero p below are is = (is, tt)
points_more (v ∷ vs) (q ∷ ps) zero p below are is = absurd are
points_more (v ∷ vs) [] (suc i) p below are is = absurd are
points_more (v ∷ vs) (q ∷ ps) (suc i) p below are is = (are.0, points_more vs ps i p (omega arith) are.1 is)

-- the texts behind references
abbrev pub texts : List (Bor (List ℕ)) → List (List ℕ)
texts values = map (λ (v : Bor (List ℕ)). v.now) values

text_at : (values : List (Bor (List ℕ))) (i : ℕ) (d : Bor (List ℕ)) → i < length values →
    slice_get (texts values) i ≡ Some (get_or values i d).now
text_at values i d below =
    slice_get-map (λ (v : Bor (List ℕ)). v.now) values i
    ∙ ap (option_map (λ (v : Bor (List ℕ)). v.now)) (slice_get-get_or values i d below)

pub refused_at : (values : List (Bor (List ℕ))) (i : ℕ) (d : Bor (List ℕ)) (ps : List Frac) (f : SegmentFault) → i < length values →
    ArePoints (take i (texts values)) ps → RefusesValue (get_or values i d).now i f → RefusesFirst (texts values) f
refused_at values i d ps f below are refused = record {
  place = i;
  value = (get_or values i d).now;
  stands = text_at values i d below;
  points_before = ps;
  before = are;
  refused = refused;
}

pub points_more_at : (values : List (Bor (List ℕ))) (i : ℕ) (d : Bor (List ℕ)) (ps : List Frac) (p : Frac) → i < length values →
    ArePoints (take i (texts values)) ps → IsPoint (get_or values i d).now p → ArePoints (take (i + 1) (texts values)) (ps ++ p ∷ [])
points_more_at values i d ps p below are is =
    let long : length (texts values) ≡ length values = length-map values (λ (v : Bor (List ℕ)). v.now) in
    subst (λ n. ArePoints (take n (texts values)) (ps ++ p ∷ [])) (let e : suc i ≡ i + 1 = omega arith in e)
    (points_more (texts values) ps i p (omega arith) are
    (subst (λ t. IsPoint t p) (sym (get_or_from_slice_get (texts values) i (get_or values i d).now [] (text_at values i d below))) is))

-- the second of two values is refused
pub second_refused : (values : List (List ℕ)) (a b : List ℕ) (p : Frac) (f : SegmentFault) → values ≡ a ∷ b ∷ [] →
    IsPoint a p → RefusesValue b 1 f → RefusesFirst values f
second_refused values a b p f are is refused =
    subst (λ vs. RefusesFirst vs f) (sym are) (record {
      place = 1;
      value = b;
      stands = refl;
      points_before = p ∷ [];
      before = (is, tt);
      refused = refused;
    })
