-- The least common multiple of the lengths' denominators is that of the points' denominators.
use Rattle.std.proofs.Common.{◌≡◌, ◌<◌, ◌≤◌, ◌+◌, ◌*◌, ◌/◌, ◌∷◌, ◌++◌, ◌∙◌, [], ℕ, List, length, get_or, take, arith, ap, refl, sym, subst}
use Rattle.std.specs.Prelude.{All, Some}
use Rattle.std.specs.Int.{◌∣◌, IsGcd}
use Rattle.std.proofs.Math.Nat.{one-dvd, dvd-zero, dvd_antisymm, le_of_dvd, mul-pos}
use Rattle.std.proofs.lemmas.List.{get_or-map, length-map, take_more}
use Rattle.std.proofs.lemmas.List.Elements.{All-cons, All-head, All-nil, All-pop, All-push, All-tail, All-take}
use Rattle.std.proofs.lemmas.Nat.Gcd.{dvd_refl, dvd_trans, IsGcd-swap}
use Rattle.ld_num.specs.Multiple.{IsLcm}
use Rattle.ld_num.specs.declared.fraction.Frac.{Frac}
use Rattle.ld_num.proofs.LcmLemmas.{divisor_positive, lcm_of}
use Rattle.ld_num.proofs.FractionLemmas.{quotient_positive}
use Rattle.ld_segment.specs.Points.{IsFilled, Rise, BeginsAtZero}
use Rattle.ld_segment.specs.Weights.{AllDivide, AreLengths, HasPeriod, IsLeastMultiple, denominators}
use Rattle.ld_segment.proofs.WeightsLengthLemmas.{gcd_of, length_between, point_divides, span_divides}

-- what all points' denominators divide, all lengths' denominators divide
pub spans_divide : (m : ℕ) (points spans : List Frac) → AreLengths points spans →
    AllDivide (denominators points) m → AllDivide (denominators spans) m
spans_divide m [] [] are all = All-nil (λ n. n ∣ m)
spans_divide m [] (span ∷ spans) are all = absurd are
spans_divide m (p ∷ []) [] are all = All-nil (λ n. n ∣ m)
spans_divide m (p ∷ []) (span ∷ spans) are all = absurd are
spans_divide m (p ∷ q ∷ rest) [] are all = absurd are
spans_divide m (p ∷ q ∷ rest) (span ∷ spans) are all =
    let behind = All-tail (λ n. n ∣ m) p.den (denominators (q ∷ rest)) all in
    let of_p = All-head (λ n. n ∣ m) p.den (denominators (q ∷ rest)) all in
    let of_q = All-head (λ n. n ∣ m) q.den (denominators rest) behind in
    All-cons (λ n. n ∣ m) span.den (denominators spans)
    (span_divides m p q span are.0 of_p of_q) (spans_divide m (q ∷ rest) spans are.1 behind)

-- and the other way, where the first point's denominator does
points_divide : (m : ℕ) (p : Frac) (rest spans : List Frac) → AreLengths (p ∷ rest) spans → p.den ∣ m →
    AllDivide (denominators spans) m → AllDivide (denominators (p ∷ rest)) m
points_divide m p [] spans are of_p all = All-cons (λ n. n ∣ m) p.den [] of_p (All-nil (λ n. n ∣ m))
points_divide m p (q ∷ rest) [] are of_p all = absurd are
points_divide m p (q ∷ rest) (span ∷ spans) are of_p all =
    let of_span = All-head (λ n. n ∣ m) span.den (denominators spans) all in
    let behind = All-tail (λ n. n ∣ m) span.den (denominators spans) all in
    let of_q = point_divides m p q span are.0 of_p of_span in
    All-cons (λ n. n ∣ m) p.den (denominators (q ∷ rest)) of_p (points_divide m q rest spans are.1 of_q behind)

-- the denominator of zero is 1
zero_divides : (m : ℕ) (p : Frac) → p.num ≡ 0 → p.den ∣ m
zero_divides m p none =
    let one : p.den ≡ 1 = p.lowest p.den (subst (λ n. p.den ∣ n) (sym none) (dvd-zero p.den)) (dvd_refl p.den) in
    subst (λ n. n ∣ m) (sym one) (one-dvd m)

pub points_divide_from_zero : (m : ℕ) (points spans : List Frac) → BeginsAtZero points → AreLengths points spans →
    AllDivide (denominators spans) m → AllDivide (denominators points) m
points_divide_from_zero m [] spans begins are all = absurd begins
points_divide_from_zero m (p ∷ rest) spans begins are all =
    points_divide m p rest spans are (zero_divides m p begins) all

-- so their least common multiples are the same
pub least_of_spans : (m : ℕ) (points spans : List Frac) → BeginsAtZero points → AreLengths points spans →
    IsLeastMultiple (denominators points) m → IsLeastMultiple (denominators spans) m
least_of_spans m points spans begins are is = record {
  of_each = spans_divide m points spans are is.of_each;
  least = λ other all. is.least other (points_divide_from_zero other points spans begins are all);
}

pub least_of_points : (m : ℕ) (points spans : List Frac) → BeginsAtZero points → AreLengths points spans →
    IsLeastMultiple (denominators spans) m → IsLeastMultiple (denominators points) m
least_of_points m points spans begins are is = record {
  of_each = points_divide_from_zero m points spans begins are is.of_each;
  least = λ other all. is.least other (spans_divide other points spans are all);
}

pub denominators_positive : (fractions : List Frac) → All (λ n. 0 < n) (denominators fractions)
denominators_positive [] = All-nil (λ n. 0 < n)
denominators_positive (p ∷ rest) =
    All-cons (λ n. 0 < n) p.den (denominators rest) p.positive (denominators_positive rest)

-- numbers above zero have a least common multiple, above zero
least_cons : (n : ℕ) (ns : List ℕ) (m k : ℕ) → IsLeastMultiple ns m → IsLcm n m k → IsLeastMultiple (n ∷ ns) k
least_cons n ns m k so_far lcm = record {
  of_each = All-cons (λ d. d ∣ k) n ns lcm.of_a (λ i d inside. dvd_trans _ (so_far.of_each i d inside) lcm.of_b);
  least = λ other all.
      lcm.least other (All-head (λ d. d ∣ other) n ns all) (so_far.least other (All-tail (λ d. d ∣ other) n ns all));
}

pub least_none : IsLeastMultiple [] 1
least_none = record {
  of_each = All-nil (λ n. n ∣ 1);
  least = λ other all. one-dvd other;
}

pub least_exists : (numbers : List ℕ) → All (λ n. 0 < n) numbers → (m : ℕ) × IsLeastMultiple numbers m × (0 < m)
least_exists [] positive = (1, least_none, omega arith)
least_exists (n ∷ ns) positive =
    let head = All-head (λ k. 0 < k) n ns positive in
    let rest = least_exists ns (All-tail (λ k. 0 < k) n ns positive) in
    let gcd = gcd_of n rest.0 in
    let divisor = divisor_positive n gcd.0 head gcd.1.0 in (
      n / gcd.0 * rest.0,
      least_cons n ns rest.0 (n / gcd.0 * rest.0) rest.1 (lcm_of n rest.0 gcd.0 divisor gcd.1),
      mul-pos (quotient_positive_left n rest.0 gcd.0 head gcd.1) rest.2,
    )
  where
    quotient_positive_left : (a b g : ℕ) → 0 < a → IsGcd a b g → 0 < a / g
    quotient_positive_left a b g some gcd = quotient_positive a g b some (IsGcd-swap a b g gcd)

pub least_unique : (numbers : List ℕ) (m k : ℕ) → IsLeastMultiple numbers m → IsLeastMultiple numbers k → m ≡ k
least_unique numbers m k one other = dvd_antisymm (one.least k other.of_each) (other.least m one.of_each)

pub least_positive : (numbers : List ℕ) (m : ℕ) → All (λ n. 0 < n) numbers → IsLeastMultiple numbers m → 0 < m
least_positive numbers m positive is =
    let some = least_exists numbers positive in
    let same = least_unique numbers m some.0 is some.1 in
    omega arith

-- one more number
pub least_more : (numbers : List ℕ) (i m k : ℕ) → i < length numbers → IsLeastMultiple (take i numbers) m →
    IsLcm m (get_or numbers i 0) k → IsLeastMultiple (take (i + 1) numbers) k
least_more numbers i m k below so_far lcm =
    rw (take_more numbers i 0 below) (record {
      of_each = All-push (λ n. n ∣ k) (take i numbers) (get_or numbers i 0)
          (λ j d inside. dvd_trans _ (so_far.of_each j d inside) lcm.of_a) lcm.of_b;
      least = λ other all. lcm.least other (so_far.least other (front other all)) (last other all);
    })
  where
    front : (other : ℕ) → AllDivide (take i numbers ++ get_or numbers i 0 ∷ []) other → AllDivide (take i numbers) other
    front other all = (All-pop (λ n. n ∣ other) _ (take i numbers) (Some (get_or numbers i 0)) refl all).0

    last : (other : ℕ) → AllDivide (take i numbers ++ get_or numbers i 0 ∷ []) other → get_or numbers i 0 ∣ other
    last other all = (All-pop (λ n. n ∣ other) _ (take i numbers) (Some (get_or numbers i 0)) refl all).1

-- the least common multiple of some of the numbers is at most that of all
pub least_at_most : (numbers : List ℕ) (i m k : ℕ) → All (λ n. 0 < n) numbers → IsLeastMultiple (take i numbers) m →
    IsLeastMultiple numbers k → m ≤ k
least_at_most numbers i m k positive some all =
    le_of_dvd (least_positive numbers k positive all)
    (some.least k (All-take (λ n. n ∣ k) i numbers all.of_each))

-- points that rise have lengths
pub lengths_exist : (points : List Frac) → Rise points → (spans : List Frac) × AreLengths points spans
lengths_exist [] rises = ([], tt)
lengths_exist (p ∷ []) rises = ([], tt)
lengths_exist (p ∷ q ∷ rest) rises =
    let first = length_between p q rises.0 in
    let behind = lengths_exist (q ∷ rest) rises.1 in
    (first.0 ∷ behind.0, (first.1, behind.1))

-- filled points have a period, the least common multiple of their denominators
pub period_from_points : (points : List Frac) (m : ℕ) → IsFilled points → IsLeastMultiple (denominators points) m →
    HasPeriod points m
period_from_points points m filled is =
    let lengths = lengths_exist points filled.rises in
    record {
      spans = lengths.0;
      are_lengths = lengths.1;
      is_least = least_of_spans m points lengths.0 filled.begins lengths.1 is;
    }

pub points_from_period : (points : List Frac) (m : ℕ) → IsFilled points → HasPeriod points m →
    IsLeastMultiple (denominators points) m
points_from_period points m filled has = least_of_points m points has.spans filled.begins has.are_lengths has.is_least

pub period_exists : (points : List Frac) → IsFilled points → (m : ℕ) × HasPeriod points m
period_exists points filled =
    let some = least_exists (denominators points) (denominators_positive points) in
    (some.0, period_from_points points some.0 filled some.1)

pub period_unique : (points : List Frac) (m k : ℕ) → IsFilled points → HasPeriod points m → HasPeriod points k → m ≡ k
period_unique points m k filled one other =
    least_unique (denominators points) m k (points_from_period points m filled one) (points_from_period points k filled other)

pub period_positive : (points : List Frac) (m : ℕ) → HasPeriod points m → 0 < m
period_positive points m has = least_positive (denominators has.spans) m (denominators_positive has.spans) has.is_least

-- the points one after another
pub denominator_at : (points : List Frac) (i : ℕ) (p : Frac) → i < length points → p ≡ get_or points i p →
    get_or (denominators points) i 0 ≡ p.den
denominator_at points i p below is = get_or-map (λ q. q.den) points i p 0 below ∙ ap (λ q. q.den) (sym is)

denominator_below : (points : List Frac) (i : ℕ) → i < length points → i < length (denominators points)
denominator_below points i below = let same = length-map points (λ q. q.den) in omega arith

pub next_positive : (points : List Frac) (i m : ℕ) → IsLeastMultiple (take i (denominators points)) m → 0 < m
next_positive points i m so_far =
    least_positive (take i (denominators points)) m
    (All-take (λ n. 0 < n) i (denominators points) (denominators_positive points)) so_far

pub next_least : (points : List Frac) (i m k : ℕ) (p : Frac) → i < length points → p ≡ get_or points i p →
    IsLeastMultiple (take i (denominators points)) m → IsLcm m p.den k →
    IsLeastMultiple (take (i + 1) (denominators points)) k
next_least points i m k p below is so_far lcm =
    least_more (denominators points) i m k (denominator_below points i below) so_far
    (subst (λ d. IsLcm m d k) (sym (denominator_at points i p below is)) lcm)

-- where it is large before all points are seen, that of all is large
pub large_before : (points : List Frac) (i m k bound : ℕ) (p : Frac) → i < length points → p ≡ get_or points i p →
    IsLeastMultiple (take i (denominators points)) m → IsLcm m p.den k → bound ≤ k →
    (multiple : ℕ) × IsLeastMultiple (denominators points) multiple × (bound ≤ multiple)
large_before points i m k bound p below is so_far lcm large =
    let all = least_exists (denominators points) (denominators_positive points) in
    let next = next_least points i m k p below is so_far lcm in
    let most = least_at_most (denominators points) (i + 1) k all.0 (denominators_positive points) next all.1 in
    (all.0, all.1, omega arith)

pub divides_at : (points : List Frac) (i m : ℕ) (p : Frac) → i < length points → p ≡ get_or points i p →
    IsFilled points → HasPeriod points m → p.den ∣ m
divides_at points i m p below is filled has =
    let all = points_from_period points m filled has in
    subst (λ d. d ∣ m) (denominator_at points i p below is) (all.of_each i 0 (denominator_below points i below))
