-- The numbers of a range that pass a test, when the test changes at one number.
use Rattle.std.specs.Prelude.{◌≡◌, ◌≢◌, ◌+◌, ◌<◌, ◌≤◌, ◌==◌, ◌&&◌, ℕ, zero, suc, Bool, true, false, cond, not, List, [], ◌∷◌, Some, filter, length, slice_get}
use Rattle.std.proofs.Common.{arith, ap, refl, sym, ◌∙◌, inl, inr, eq-eqb}
use Rattle.std.specs.List.{All, range_with_len}
use Rattle.std.specs.List.Sorted.{IsStrictlyIncreasing}
use Rattle.std.proofs.lemmas.Bool.{cases_eq, lt-ltb, le-ltb, ne_eqb}
use Rattle.std.proofs.lemmas.List.Elements.{All-from_get_or, All-filter}
use Rattle.std.proofs.lemmas.List.FromFn.{get_or-range_with_len, length-range_with_len}
use Rattle.std.proofs.lemmas.List.Kept.{IsStrictlyIncreasing-filter}
use Rattle.std.proofs.lemmas.List.Sums.{count_by-le-length, length-filter}
use Rattle.ld_set.specs.SetView.{is_among, with_number, without_number}

-- ---- what a range keeps

-- tests that agree in the range keep the same
pub kept_agree : (p q : ℕ → Bool) (n a : ℕ) → ((k : ℕ) → a ≤ k → k < a + n → q k ≡ p k) →
    filter p (range_with_len a n) ≡ filter q (range_with_len a n)
kept_agree p q zero a same = refl
kept_agree p q (suc n) a same =
    let rest = kept_agree p q n (a + 1) (λ k from to. same k (omega arith) (omega arith)) in
    rw (same a (omega arith) (omega arith), rest) refl

-- a test that passes no number of the range keeps none, and one that passes all keeps all
pub kept_none : (p : ℕ → Bool) (n a : ℕ) → ((k : ℕ) → a ≤ k → k < a + n → p k ≡ false) → filter p (range_with_len a n) ≡ []
kept_none p zero a each = refl
kept_none p (suc n) a each = rw (each a (omega arith) (omega arith)) (kept_none p n (a + 1) (λ k from to. each k (omega arith) (omega arith)))

pub kept_all : (p : ℕ → Bool) (n a : ℕ) → ((k : ℕ) → a ≤ k → k < a + n → p k ≡ true) → filter p (range_with_len a n) ≡ range_with_len a n
kept_all p zero a each = refl
kept_all p (suc n) a each =
    rw (each a (omega arith) (omega arith)) (ap (λ (ks : List ℕ). a ∷ ks) (kept_all p n (a + 1) (λ k from to. each k (omega arith) (omega arith))))

-- no more are kept than there are
pub kept_few : (p : ℕ → Bool) (n a : ℕ) → length (filter p (range_with_len a n)) ≤ n
kept_few p n a = omega (arith, length-filter p (range_with_len a n), count_by-le-length p (range_with_len a n), length-range_with_len a n)

-- the first number that passes is the first that is kept
pub kept_first : (p : ℕ → Bool) (m n a : ℕ) → a ≤ m → m < a + n → p m ≡ true → ((k : ℕ) → k < m → p k ≡ false) →
    slice_get (filter p (range_with_len a n)) 0 ≡ Some m
kept_first p m zero a from to passes before = absurd (omega arith)
kept_first p m (suc n) a from to passes before =
    elim (cases_eq a m) [
      | inl same ↦ rw (same, passes) refl
      | inr other ↦ rw (before a (omega arith)) (kept_first p m n (a + 1) (omega arith) (omega arith) passes before)
    ]

-- ---- one number more, or one less

-- a number below all that are kept comes first
with_number_front : (p : ℕ → Bool) (number n a : ℕ) → number < a →
    with_number number (filter p (range_with_len a n)) ≡ number ∷ filter p (range_with_len a n)
with_number_front p number zero a below = refl
with_number_front p number (suc n) a below =
    let P : Bool → Type 0 = λ b. with_number number (cond b (a ∷ filter p (range_with_len (a + 1) n)) (filter p (range_with_len (a + 1) n)))
    ≡ number ∷ cond b (a ∷ filter p (range_with_len (a + 1) n)) (filter p (range_with_len (a + 1) n)) in
    let by : P (p a) = elim (p a) as P [
      | true ↦ rw (le-ltb a number (omega arith), ne_eqb a number (λ e. omega arith)) refl
      | false ↦ with_number_front p number n (a + 1) (omega arith)
    ] in
    by

module _ (p q : ℕ → Bool) (number : ℕ) (here : q number ≡ true) (same : (k : ℕ) → k ≢ number → q k ≡ p k) where
  -- what is kept by a test that passes one number more
  pub with_number_kept : (n a : ℕ) → a ≤ number → number < a + n → with_number number (filter p (range_with_len a n)) ≡ filter q (range_with_len a n)
  with_number_kept zero a from to = absurd (omega arith)
  with_number_kept (suc n) a from to =
      elim (cases_eq a number) [
        | inl e ↦
            let rest : List ℕ = filter p (range_with_len (a + 1) n) in
            let agree : rest ≡ filter q (range_with_len (a + 1) n) = kept_agree p q n (a + 1) (λ k above below. same k (λ f. omega arith)) in
            let P : Bool → Type 0 = λ b. with_number number (cond b (a ∷ rest) rest) ≡ number ∷ rest in
            let by : P (p a) = elim (p a) as P [
              | true ↦ rw (le-ltb a number (omega arith), eq-eqb a number e) (ap (λ k. k ∷ rest) e)
              | false ↦ with_number_front p number n (a + 1) (omega arith)
            ] in
            let passes : q a ≡ true = ap q e ∙ here in
            rw passes (by ∙ (λ i. sym e i ∷ agree i))
        | inr other ↦
            let rest : List ℕ = filter p (range_with_len (a + 1) n) in
            let more = with_number_kept n (a + 1) (omega arith) (omega arith) in
            let P : Bool → Type 0 = λ b. with_number number (cond b (a ∷ rest) rest)
            ≡ cond b (a ∷ filter q (range_with_len (a + 1) n)) (filter q (range_with_len (a + 1) n)) in
            let by : P (p a) = elim (p a) as P [
              | true ↦ rw (lt-ltb a number (omega arith)) (ap (λ (ks : List ℕ). a ∷ ks) more)
              | false ↦ more
            ] in
            rw (same a other) by
      ]

  -- and how many they are
  pub one_more_kept : p number ≡ false → (n a : ℕ) → a ≤ number → number < a + n →
      length (filter q (range_with_len a n)) ≡ length (filter p (range_with_len a n)) + 1
  one_more_kept not_yet zero a from to = absurd (omega arith)
  one_more_kept not_yet (suc n) a from to =
      elim (cases_eq a number) [
        | inl e ↦
            let agree = ap (λ (ks : List ℕ). length ks) (kept_agree p q n (a + 1) (λ k above below. same k (λ f. omega arith))) in
            let passes : q a ≡ true = ap q e ∙ here in
            let fails : p a ≡ false = ap p e ∙ not_yet in
            rw (passes, fails) (omega (arith, agree))
        | inr other ↦
            let more = one_more_kept not_yet n (a + 1) (omega arith) (omega arith) in
            let P : Bool → Type 0 = λ b. length (cond b (a ∷ filter q (range_with_len (a + 1) n)) (filter q (range_with_len (a + 1) n)))
            ≡ length (cond b (a ∷ filter p (range_with_len (a + 1) n)) (filter p (range_with_len (a + 1) n))) + 1 in
            let by : P (p a) = elim (p a) as P [
              | true ↦ omega (arith, more)
              | false ↦ more
            ] in
            rw (same a other) by
      ]

-- two tests one behind the other
pub kept_twice : (p r : ℕ → Bool) (ks : List ℕ) → filter r (filter p ks) ≡ filter (λ k. p k && r k) ks
kept_twice p r [] = refl
kept_twice p r (k ∷ ks) =
    let P : Bool → Type 0 = λ b. filter r (cond b (k ∷ filter p ks) (filter p ks))
    ≡ cond (b && r k) (k ∷ filter (λ j. p j && r j) ks) (filter (λ j. p j && r j) ks) in
    let by : P (p k) = elim (p k) as P [
      | true ↦ ap (λ (js : List ℕ). cond (r k) (k ∷ js) js) (kept_twice p r ks)
      | false ↦ kept_twice p r ks
    ] in
    by

-- what is kept by a test that passes one number less
pub without_number_kept : (p q : ℕ → Bool) (number : ℕ) → q number ≡ false → ((k : ℕ) → k ≢ number → q k ≡ p k) → (n a : ℕ) →
    without_number number (filter p (range_with_len a n)) ≡ filter q (range_with_len a n)
without_number_kept p q number gone same n a =
    kept_twice p (λ k. not (k == number)) (range_with_len a n)
    ∙ kept_agree (λ k. p k && not (k == number)) q n a (λ k from to. elim (cases_eq k number) [
      | inl e ↦ let by : q k ≡ false = ap q e ∙ gone in rw (by, eq-eqb k number e) (none (p k))
      | inr other ↦ rw (same k other, ne_eqb k number other) (all (p k))
    ])
  where
    none : (b : Bool) → false ≡ (b && false)
    none true = refl
    none false = refl

    all : (b : Bool) → b ≡ (b && true)
    all true = refl
    all false = refl

-- ---- what is kept is in order, and within the range

-- a number that isn't in the range, or doesn't pass, isn't among those that are kept
pub not_among_kept : (p : ℕ → Bool) (number n a : ℕ) → ((k : ℕ) → a ≤ k → k < a + n → p k ≡ true → k ≢ number) →
    is_among (filter p (range_with_len a n)) number ≡ false
not_among_kept p number zero a other = refl
not_among_kept p number (suc n) a other =
    let rest = not_among_kept p number n (a + 1) (λ k from to. other k (omega arith) (omega arith)) in
    let P : Bool → Type 0 = λ b. p a ≡ b →
    is_among (cond b (a ∷ filter p (range_with_len (a + 1) n)) (filter p (range_with_len (a + 1) n))) number ≡ false in
    let by : P (p a) = elim (p a) as P [
      | true ↦ λ passes. rw (ne_eqb a number (other a (omega arith) (omega arith) passes)) rest
      | false ↦ λ fails. rest
    ] in
    by refl

-- a number of the range is among those that are kept exactly where it passes
pub among_kept : (p : ℕ → Bool) (number n a : ℕ) → a ≤ number → number < a + n → is_among (filter p (range_with_len a n)) number ≡ p number
among_kept p number zero a from to = absurd (omega arith)
among_kept p number (suc n) a from to =
    elim (cases_eq a number) [
      | inl e ↦
          let P : Bool → Type 0 = λ b. is_among (cond b (a ∷ filter p (range_with_len (a + 1) n)) (filter p (range_with_len (a + 1) n))) number ≡ b in
          let by : P (p a) = elim (p a) as P [
            | true ↦ rw (eq-eqb a number e) refl
            | false ↦ not_among_kept p number n (a + 1) (λ k above below passes f. omega arith)
          ] in
          by ∙ ap p e
      | inr other ↦
          let rest = among_kept p number n (a + 1) (omega arith) (omega arith) in
          let P : Bool → Type 0 = λ b. is_among (cond b (a ∷ filter p (range_with_len (a + 1) n)) (filter p (range_with_len (a + 1) n))) number
          ≡ p number in
          let by : P (p a) = elim (p a) as P [
            | true ↦ rw (ne_eqb a number other) rest
            | false ↦ rest
          ] in
          by
    ]

-- they rise, and are below the range's end
range_rises : (n a : ℕ) → IsStrictlyIncreasing (range_with_len a n)
range_rises n a k within =
    let long = length-range_with_len a n in
    omega (arith, get_or-range_with_len a n k 0 (omega arith), get_or-range_with_len a n (k + 1) 0 (omega arith))

pub kept_rises : (p : ℕ → Bool) (n a : ℕ) → IsStrictlyIncreasing (filter p (range_with_len a n))
kept_rises p n a = IsStrictlyIncreasing-filter p (range_with_len a n) (range_rises n a)

pub kept_below : (p : ℕ → Bool) (limit : ℕ) → All (λ k. k < limit) (filter p (range_with_len 0 limit))
kept_below p limit =
    All-filter p (λ k. k < limit) (range_with_len 0 limit)
    (All-from_get_or (λ k. k < limit) (range_with_len 0 limit) 0 (λ i within.
    let long = length-range_with_len 0 limit in omega (arith, get_or-range_with_len 0 limit i 0 (omega arith))))
