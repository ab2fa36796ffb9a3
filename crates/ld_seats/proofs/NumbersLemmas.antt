-- Numbers among others, and those of rising ones that pass a test, when the test changes at one number.
use Rattle.std.proofs.Common.{◌≡◌, ◌≢◌, ◌≤◌, ◌<◌, ◌+◌, ◌==◌, ◌&&◌, ◌||◌, ◌∙◌, if◌then◌else◌, ℕ, zero, suc, Bool, true, false, cond, not, nat_lt, List, [], ◌∷◌, length, None, Some, filter, slice_get, slice_index, slice_set, arith, refl, sym, ap, subst, inl, inr}
use Rattle.std.specs.List.Sorted.{IsStrictlyIncreasing}
use Rattle.std.proofs.lemmas.Bool.{cases_eq, lt-ltb, le-ltb, ne_eqb, eqb-true, eqb-false, and_from}
use Rattle.ld_machine.proofs.FirstOfAllLemmas.{false_unless}
use Rattle.ld_machine.proofs.ListLemmas.{In, here, there, nothing_in, number_itself, both_true, In-from_any, any-from_In, In-filter, filter-In, Contains-from_In}
use Rattle.ld_machine.proofs.ValidPlanLemmas.{head_below, tail_rises}
use Rattle.ld_set.specs.SetView.{is_among, with_number, without_number}

-- ---- tests

pub same_test : (a b : Bool) → (a ≡ true → b ≡ true) → (b ≡ true → a ≡ true) → a ≡ b
same_test true b to from = sym (to refl)
same_test false false to from = refl
same_test false true to from = from refl

-- ---- among numbers

pub among_in : (number : ℕ) (numbers : List ℕ) → is_among numbers number ≡ true → In number numbers
among_in number numbers h =
    let found = In-from_any (λ k. k == number) numbers h in
    subst (λ k. In k numbers) (eqb-true found.0 number found.2) found.1

in_among : (number : ℕ) {numbers : List ℕ} → In number numbers → is_among numbers number ≡ true
in_among number at = any-from_In (λ k. k == number) number at (number_itself number)

pub among_with : (number j : ℕ) (numbers : List ℕ) → is_among (with_number number numbers) j ≡ ((number == j) || is_among numbers j)
among_with number j [] = refl
among_with number j (k ∷ rest) =
    let later = among_with number j rest in
    let P : Bool → Type 0 = λ b. is_among (if b then k ∷ with_number number rest else (if k == number then k ∷ rest else number ∷ k ∷ rest)) j
    ≡ ((number == j) || ((k == j) || is_among rest j)) in
    let Q : Bool → Type 0 = λ b. (k == number) ≡ b → is_among (if b then k ∷ rest else number ∷ k ∷ rest) j ≡ ((number == j) || ((k == j) || is_among rest j)) in
    let at : Q (k == number) = elim (k == number) as Q [
      | true ↦ λ e. let same : k ≡ number = eqb-true k number e in rw same (twice (number == j) (is_among rest j))
      | false ↦ λ e. refl
    ] in
    let from : P (nat_lt k number) = elim (nat_lt k number) as P [
      | true ↦ rw later (swap (k == j) (number == j) (is_among rest j))
      | false ↦ at refl
    ] in from
  where
    twice : (a b : Bool) → (a || b) ≡ (a || (a || b))
    twice true b = refl
    twice false b = refl

    swap : (a b c : Bool) → (a || (b || c)) ≡ (b || (a || c))
    swap true true c = refl
    swap true false c = refl
    swap false b c = refl

pub among_without : (number j : ℕ) (numbers : List ℕ) → is_among (without_number number numbers) j ≡ (is_among numbers j && not (j == number))
among_without number j [] = refl
among_without number j (k ∷ rest) =
    let later = among_without number j rest in
    let P : Bool → Type 0 = λ b. (k == number) ≡ b → is_among (cond (not b) (k ∷ without_number number rest) (without_number number rest)) j
    ≡ (((k == j) || is_among rest j) && not (j == number)) in
    let from : P (k == number) = elim (k == number) as P [
      | true ↦ λ e. let same : k ≡ number = eqb-true k number e in rw (same, later) (gone j)
      | false ↦ λ e. rw later (stays j (eqb-false k number e))
    ] in from refl
  where
    none : (b : Bool) → (b && false) ≡ false
    none true = refl
    none false = refl

    all : (a b : Bool) → (a || (b && true)) ≡ ((a || b) && true)
    all true b = refl
    all false true = refl
    all false false = refl

    gone : (j : ℕ) → (is_among rest j && not (j == number)) ≡ (((number == j) || is_among rest j) && not (j == number))
    gone j = elim (cases_eq j number) [
      | inl same ↦ let at = number_itself number in rw same (rw at (none (is_among rest number)))
      | inr other ↦ rw (ne_eqb number j (λ e. other (sym e))) refl
    ]

    stays : (j : ℕ) → (k ≡ number → ⊥) → ((k == j) || (is_among rest j && not (j == number))) ≡ (((k == j) || is_among rest j) && not (j == number))
    stays j apart = elim (cases_eq k j) [
      | inl same ↦ rw (ne_eqb j number (λ e. apart (same ∙ e))) (all (k == j) (is_among rest j))
      | inr other ↦ rw (ne_eqb k j other) refl
    ]

-- ---- what is kept of numbers

pub kept_same : (p q : ℕ → Bool) (numbers : List ℕ) → ((k : ℕ) → In k numbers → q k ≡ p k) → filter p numbers ≡ filter q numbers
kept_same p q [] same = refl
kept_same p q (k ∷ rest) same = rw (same k here, kept_same p q rest (λ j at. same j (there at))) refl

-- one number less
pub kept_less : (p q : ℕ → Bool) (number : ℕ) (numbers : List ℕ) → q number ≡ false → ((k : ℕ) → In k numbers → k ≢ number → q k ≡ p k) →
    without_number number (filter p numbers) ≡ filter q numbers
kept_less p q number [] gone same = refl
kept_less p q number (k ∷ rest) gone same =
    let later = kept_less p q number rest gone (λ j at. same j (there at)) in
    elim (cases_eq k number) [
      | inl e ↦
          let P : Bool → Type 0 = λ b. without_number number (cond b (k ∷ filter p rest) (filter p rest)) ≡ filter q rest in
          let left : P (p k) = elim (p k) as P [
            | true ↦ let it : (k == number) ≡ true = rw e (number_itself number) in rw it later
            | false ↦ later
          ] in
          let fails : q k ≡ false = ap q e ∙ gone in
          rw fails left
      | inr other ↦
          let P : Bool → Type 0 = λ b. without_number number (cond b (k ∷ filter p rest) (filter p rest)) ≡ cond b (k ∷ filter q rest) (filter q rest) in
          let left : P (p k) = elim (p k) as P [
            | true ↦ rw (ne_eqb k number other) (ap (λ (more : List ℕ). k ∷ more) later)
            | false ↦ later
          ] in
          rw (same k here other) left
    ]

kept_in : (p : ℕ → Bool) (k : ℕ) (numbers : List ℕ) → In k (filter p numbers) → In k numbers
kept_in p k numbers at = (In-filter p k numbers at).0

-- a number below all of these comes first
with_first : (number : ℕ) (numbers : List ℕ) → ((k : ℕ) → In k numbers → number < k) → with_number number numbers ≡ number ∷ numbers
with_first number [] below = refl
with_first number (k ∷ rest) below =
    let first : number < k = below k here in
    rw (le-ltb k number (omega arith), ne_eqb k number (λ e. omega arith)) refl

-- one number more
pub kept_more : (p q : ℕ → Bool) (number : ℕ) (numbers : List ℕ) → IsStrictlyIncreasing numbers → In number numbers → q number ≡ true →
    ((k : ℕ) → In k numbers → k ≢ number → q k ≡ p k) → with_number number (filter p numbers) ≡ filter q numbers
kept_more p q number [] rises at passes same = absurd (nothing_in at)
kept_more p q number (k ∷ rest) rises at passes same =
    let above : (j : ℕ) → In j rest → k < j = λ j there_is. head_below k j rest rises (Contains-from_In j there_is) in
    elim (cases_eq k number) [
      | inl e ↦
          let agree : filter p rest ≡ filter q rest = kept_same p q rest (λ j there_is. same j (there there_is) (let far = above j there_is in λ f. omega arith)) in
          let P : Bool → Type 0 = λ b. with_number number (cond b (k ∷ filter p rest) (filter p rest)) ≡ number ∷ filter p rest in
          let first : P (p k) = elim (p k) as P [
            | true ↦ let it : (k == number) ≡ true = rw e (number_itself number) in rw (le-ltb k number (omega arith), it) (ap (λ j. j ∷ filter p rest) e)
            | false ↦ with_first number (filter p rest) (λ j kept. let far = above j (kept_in p j rest kept) in omega arith)
          ] in
          let now : q k ≡ true = ap q e ∙ passes in
          rw now (first ∙ (λ i. sym e i ∷ agree i))
      | inr other ↦
          let in_rest : In number rest = behind at other in
          let far : k < number = above number in_rest in
          let later = kept_more p q number rest (tail_rises k rest rises) in_rest passes (λ j there_is. same j (there there_is)) in
          let P : Bool → Type 0 = λ b. with_number number (cond b (k ∷ filter p rest) (filter p rest)) ≡ cond b (k ∷ filter q rest) (filter q rest) in
          let left : P (p k) = elim (p k) as P [
            | true ↦ rw (lt-ltb k number far) (ap (λ (more : List ℕ). k ∷ more) later)
            | false ↦ later
          ] in
          rw (same k here other) left
    ]
  where
    behind : {x : ℕ} {xs : List ℕ} → In number (x ∷ xs) → (x ≡ number → ⊥) → In number xs
    behind here apart = absurd (apart refl)
    behind (there more) apart = more

-- ---- how many rising numbers there are

grows : (numbers : List ℕ) → IsStrictlyIncreasing numbers → (k : ℕ) → k < length numbers → slice_index numbers 0 + k ≤ slice_index numbers k
grows numbers rises zero within = omega arith
grows numbers rises (suc k) within =
    let before = grows numbers rises k (omega arith) in
    let step : slice_index numbers k < slice_index numbers (suc k) = subst (λ j. slice_index numbers k < slice_index numbers j) (omega arith) (rises k (omega arith)) in
    omega arith

-- rising numbers from 1 to a greatest one are no more than that
pub few_rising : (most : ℕ) (numbers : List ℕ) → IsStrictlyIncreasing numbers → ((k : ℕ) → In k numbers → (1 ≤ k) × (k ≤ most)) → length numbers ≤ most
few_rising most [] rises within = omega arith
few_rising most (k ∷ rest) rises within =
    let first = within k here in
    let last : slice_index (k ∷ rest) (length rest) ≤ most = (within (slice_index (k ∷ rest) (length rest)) (at_place (length rest) (k ∷ rest) (omega arith))).1 in
    let high = grows (k ∷ rest) rises (length rest) (omega arith) in
    omega arith
  where
    at_place : (i : ℕ) (xs : List ℕ) → i < length xs → In (slice_index xs i) xs
    at_place i [] below = absurd (omega arith)
    at_place zero (x ∷ xs) below = here
    at_place (suc i) (x ∷ xs) below = there (at_place i xs (omega arith))

-- ---- the first that passes

pub among_kept : (p : ℕ → Bool) (k : ℕ) (numbers : List ℕ) → In k numbers → is_among (filter p numbers) k ≡ p k
among_kept p k numbers at =
    same_test (is_among (filter p numbers) k) (p k)
    (λ e. (In-filter p k numbers (among_in k (filter p numbers) e)).1)
    (λ passes. in_among k (filter-In p k at passes))

first_in : (k : ℕ) (numbers : List ℕ) → slice_get numbers 0 ≡ Some k → In k numbers
first_in k [] e = absurd (cc)
first_in k (j ∷ rest) e = let same : j ≡ k = cc in subst (λ i. In i (j ∷ rest)) same here

pub none_first : {A : Type 0} (xs : List A) → slice_get xs 0 ≡ None → xs ≡ []
none_first [] e = refl
none_first (x ∷ xs) e = absurd (cc)

-- the first of some numbers that pass a test is one of them, and passes; where there is none, none of them passes
pub first_passes : (p : ℕ → Bool) (numbers : List ℕ) (k : ℕ) → slice_get (filter p numbers) 0 ≡ Some k → (is_among numbers k && p k) ≡ true
first_passes p numbers k e =
    let kept = In-filter p k numbers (first_in k (filter p numbers) e) in
    and_from (is_among numbers k) (p k) (in_among k kept.0) kept.1

pub none_passes : (p : ℕ → Bool) (numbers : List ℕ) → slice_get (filter p numbers) 0 ≡ None → (k : ℕ) → (is_among numbers k && p k) ≡ false
none_passes p numbers e k =
    false_unless (is_among numbers k && p k) (λ both.
    let parts = both_true (is_among numbers k) (p k) both in
    nothing_in (subst (λ (more : List ℕ). In k more) (none_first (filter p numbers) e) (filter-In p k (among_in k numbers parts.0) parts.1)))

pub all_pass : (numbers : List ℕ) → filter (λ k. true) numbers ≡ numbers
all_pass [] = refl
all_pass (k ∷ rest) = ap (λ (more : List ℕ). k ∷ more) (all_pass rest)

-- ---- a place of a list

pub put_elsewhere : (xs : List ℕ) (i j v : ℕ) → j ≢ i → slice_get (slice_set xs i v) j ≡ slice_get xs j
put_elsewhere [] i j v other = refl
put_elsewhere (y ∷ ys) zero zero v other = absurd (other refl)
put_elsewhere (y ∷ ys) zero (suc j) v other = refl
put_elsewhere (y ∷ ys) (suc i) zero v other = refl
put_elsewhere (y ∷ ys) (suc i) (suc j) v other = put_elsewhere ys i j v (λ e. other (ap suc e))
