-- The greatest common divisor of a list, number by number.
use Rattle.std.proofs.Common.{◌≡◌, ◌<◌, ◌≤◌, ◌+◌, ◌*◌, ◌/◌, ◌∷◌, ◌++◌, ◌∙◌, [], ℕ, List, length, get_or, map, take, arith, ap, ap₂, refl, sym, subst}
use Rattle.std.specs.Prelude.{All, Some, sum}
use Rattle.std.proofs.lemmas.List.Sums.{sum_by-cons}
use Rattle.std.specs.Int.{◌∣◌, IsGcd}
use Rattle.std.proofs.Math.Nat.{mul-div_cancel', dvd-zero, dvd_antisymm, eq-zero_of_zero-dvd, mul-zero, zero-mul, one-mul, mul-le-mul_right, mul-add, eq_of_mul-eq-mul_left}
use Rattle.std.proofs.Math.Decide.{dec_lt}
use Rattle.std.proofs.lemmas.List.{take_more}
use Rattle.std.proofs.lemmas.List.Elements.{All-push, All-pop, All-cons, All-head, All-tail, All-nil}
use Rattle.std.proofs.lemmas.Nat.Gcd.{dvd_trans}
use Rattle.ld_stripe.specs.Striping.{DividesAll, IsGreatestDivisor, IsLowestTerms}

pub greatest_none : IsGreatestDivisor [] 0
greatest_none = record {
  divides = All-nil (λ n. 0 ∣ n);
  greatest = λ d all. dvd-zero d;
}

-- of the numbers and one more it is that of the divisor so far and the new number
pub greatest_more : (numbers : List ℕ) (i g h : ℕ) → i < length numbers →
    IsGreatestDivisor (take i numbers) g → IsGcd g (get_or numbers i 0) h →
    IsGreatestDivisor (take (i + 1) numbers) h
greatest_more numbers i g h below so_far gcd =
    rw (take_more numbers i 0 below) (record {
      divides = All-push (λ n. h ∣ n) (take i numbers) (get_or numbers i 0)
          (λ k d inside. dvd_trans h gcd.0 (so_far.divides k d inside)) gcd.1;
      greatest = λ d all. gcd.2 d (so_far.greatest d (front d all)) (last d all);
    })
  where
    front : (d : ℕ) → DividesAll d (take i numbers ++ get_or numbers i 0 ∷ []) → DividesAll d (take i numbers)
    front d all = (All-pop (λ n. d ∣ n) _ (take i numbers) (Some (get_or numbers i 0)) refl all).0

    last : (d : ℕ) → DividesAll d (take i numbers ++ get_or numbers i 0 ∷ []) → d ∣ get_or numbers i 0
    last d all = (All-pop (λ n. d ∣ n) _ (take i numbers) (Some (get_or numbers i 0)) refl all).1

-- each number is the divisor times its quotient
multiples_of : (d : ℕ) (numbers : List ℕ) → DividesAll d numbers →
    numbers ≡ map (λ n. d * n) (map (λ n. n / d) numbers)
multiples_of d [] all = refl
multiples_of d (n ∷ ns) all =
    ap₂ (λ x xs. x ∷ xs) (sym (mul-div_cancel' d (All-head (λ m. d ∣ m) n ns all)))
    (multiples_of d ns (All-tail (λ m. d ∣ m) n ns all))

pub lowest_terms : (numbers : List ℕ) (d : ℕ) → IsGreatestDivisor numbers d →
    IsLowestTerms numbers (map (λ n. n / d) numbers)
lowest_terms numbers d greatest = record {
  divisor = d;
  is_greatest = greatest;
  multiples = multiples_of d numbers greatest.divides;
}

-- the greatest common divisor of numbers that aren't all zero is above 0
pub divisor_positive : (numbers : List ℕ) (d : ℕ) → 0 < sum numbers → IsGreatestDivisor numbers d → 0 < d
divisor_positive numbers d some greatest =
    elim (dec_lt 0 d) [
      | yes above ↦ above
      | no zero ↦
          let none : d ≡ 0 = omega arith in
          let nothing = zeros_sum numbers (λ k e inside. eq-zero_of_zero-dvd (subst (λ g. g ∣ get_or numbers k e) none (greatest.divides k e inside))) in
          absurd (omega arith)
    ]
  where
    zeros_sum : (ns : List ℕ) → All (λ n. n ≡ 0) ns → sum ns ≡ 0
    zeros_sum [] all = refl
    zeros_sum (n ∷ ns) all =
        let head : n ≡ 0 = All-head (λ m. m ≡ 0) n ns all in
        let rest = zeros_sum ns (All-tail (λ m. m ≡ 0) n ns all) in
        let split = sum_by-cons (λ x. x) n ns in
        omega arith

sum_of_multiples : (d : ℕ) (numbers : List ℕ) → sum (map (λ n. d * n) numbers) ≡ d * sum numbers
sum_of_multiples d [] = sym (mul-zero d)
sum_of_multiples d (n ∷ ns) =
    let rest = sum_of_multiples d ns in
    let left = sum_by-cons (λ x. x) (d * n) (map (λ m. d * m) ns) in
    let right : d * sum (n ∷ ns) ≡ d * (n + sum ns) = ap (λ s. d * s) (sum_by-cons (λ x. x) n ns) in
    let split = mul-add d n (sum ns) in
    omega arith

-- the sum of the numbers is the divisor times the sum in lowest terms
pub sum_reduced : (numbers reduced : List ℕ) (terms : IsLowestTerms numbers reduced) →
    sum numbers ≡ terms.divisor * sum reduced
sum_reduced numbers reduced terms = ap sum terms.multiples ∙ sum_of_multiples terms.divisor reduced

cancel : (d : ℕ) → 0 < d → (a b : List ℕ) → map (λ n. d * n) a ≡ map (λ n. d * n) b → a ≡ b
cancel d positive [] [] e = refl
cancel d positive [] (y ∷ ys) e = cc
cancel d positive (x ∷ xs) [] e = cc
cancel d positive (x ∷ xs) (y ∷ ys) e =
    let multiples : d * x ≡ d * y = cc in
    let rest : map (λ n. d * n) xs ≡ map (λ n. d * n) ys = cc in
    ap₂ (λ n ns. n ∷ ns) (eq_of_mul-eq-mul_left d positive x y multiples) (cancel d positive xs ys rest)

-- numbers that aren't all zero have one form in lowest terms
pub one_form : (numbers a b : List ℕ) → 0 < sum numbers → IsLowestTerms numbers a → IsLowestTerms numbers b → a ≡ b
one_form numbers a b some ta tb =
    let same : ta.divisor ≡ tb.divisor =
    dvd_antisymm (tb.is_greatest.greatest ta.divisor ta.is_greatest.divides)
    (ta.is_greatest.greatest tb.divisor tb.is_greatest.divides) in
    let sum_a = sum_reduced numbers a ta in
    let positive : 0 < ta.divisor = elim (dec_lt 0 ta.divisor) [
      | yes above ↦ above
      | no zero ↦
          let none : ta.divisor * sum a ≡ 0 = ap (λ d. d * sum a) (let e : ta.divisor ≡ 0 = omega arith in e) ∙ zero-mul (sum a) in
          absurd (omega arith)
    ] in
    cancel ta.divisor positive a b
    (sym ta.multiples ∙ tb.multiples ∙ ap (λ d. map (λ n. d * n) b) (sym same))

-- the sum in lowest terms of numbers that aren't all zero is above zero
pub period_positive : (numbers reduced : List ℕ) → 0 < sum numbers → IsLowestTerms numbers reduced → 0 < sum reduced
period_positive numbers reduced some terms =
    elim (dec_lt 0 (sum reduced)) [
      | yes above ↦ above
      | no zero ↦
          let whole = sum_reduced numbers reduced terms in
          let none : terms.divisor * sum reduced ≡ 0 = ap (λ s. terms.divisor * s) (let e : sum reduced ≡ 0 = omega arith in e) ∙ mul-zero terms.divisor in
          absurd (omega arith)
    ]

-- and it is at most the sum of the numbers
pub period_at_most : (numbers reduced : List ℕ) → 0 < sum numbers → IsLowestTerms numbers reduced → sum reduced ≤ sum numbers
period_at_most numbers reduced some terms =
    let whole = sum_reduced numbers reduced terms in
    let positive = divisor_positive numbers terms.divisor some terms.is_greatest in
    let least = mul-le-mul_right (sum reduced) positive in
    let once = one-mul (sum reduced) in
    omega arith

-- numbers above zero have a sum above zero
pub sum_positive : (numbers : List ℕ) → 0 < length numbers → All (λ n. 0 < n) numbers → 0 < sum numbers
sum_positive [] some positive = absurd (omega arith)
sum_positive (n ∷ ns) some positive =
    let first : 0 < n = positive 0 0 (omega arith) in
    let split = sum_by-cons (λ x. x) n ns in
    omega arith

positive_parts : (d : ℕ) (ns : List ℕ) → All (λ n. 0 < n) (map (λ n. d * n) ns) → All (λ n. 0 < n) ns
positive_parts d [] all = All-nil (λ n. 0 < n)
positive_parts d (n ∷ ns) all =
    let head : 0 < d * n = All-head (λ m. 0 < m) (d * n) (map (λ m. d * m) ns) all in
    let above : 0 < n = elim (dec_lt 0 n) [
      | yes some ↦ some
      | no none ↦
          let nothing : d * n ≡ 0 = ap (λ m. d * m) (let e : n ≡ 0 = omega arith in e) ∙ mul-zero d in
          absurd (omega arith)
    ] in
    All-cons (λ m. 0 < m) n ns above (positive_parts d ns (All-tail (λ m. 0 < m) (d * n) (map (λ m. d * m) ns) all))

-- numbers above zero are above zero in lowest terms
pub reduced_positive : (numbers reduced : List ℕ) → All (λ n. 0 < n) numbers → IsLowestTerms numbers reduced →
    All (λ n. 0 < n) reduced
reduced_positive numbers reduced positive terms =
    positive_parts terms.divisor reduced (subst (λ ns. All (λ n. 0 < n) ns) terms.multiples positive)
