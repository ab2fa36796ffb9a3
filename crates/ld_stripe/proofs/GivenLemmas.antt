-- How often each position stands among the owners, and that this counts each owner once.
use Rattle.std.proofs.Common.{◌≡◌, ◌≢◌, ◌<◌, ◌≤◌, ◌+◌, ℕ, zero, suc, List, [], ◌∷◌, ◌++◌, inl, inr, cond, length, get_or, arith, refl, ap, subst, nat_eq}
use Rattle.std.specs.Prelude.{sum}
use Rattle.std.proofs.Math.Decide.{dec_lt}
use Rattle.std.proofs.lemmas.Bool.Decides.{eqb_tells}
use Rattle.std.proofs.lemmas.List.Sums.{sum_by-cons, sum_by_push}
use Rattle.ld_stripe.specs.Striping.{given}

-- 1 where the two are equal, else 0
abbrev pub one_if : ℕ → ℕ → ℕ
one_if x j = cond (nat_eq x j) 1 0

pub one_if_other : (x j : ℕ) → x ≢ j → one_if x j ≡ 0
one_if_other x j other = elim (eqb_tells x j) [
  | inl same ↦ absurd (other same.1)
  | inr apart ↦ ap (λ b. cond b 1 0) apart.0
]

pub one_if_same : (x j : ℕ) → x ≡ j → one_if x j ≡ 1
one_if_same x j is = elim (eqb_tells x j) [
  | inl same ↦ ap (λ b. cond b 1 0) same.0
  | inr apart ↦ absurd (apart.1 is)
]

pub given-push : (owners : List ℕ) (x j : ℕ) → given (owners ++ x ∷ []) j ≡ given owners j + one_if x j
given-push owners x j = sum_by_push (λ k. one_if k j) owners x

pub given-cons : (x : ℕ) (owners : List ℕ) (j : ℕ) → given (x ∷ owners) j ≡ one_if x j + given owners j
given-cons x owners j = sum_by-cons (λ k. one_if k j) x owners

-- the sum over the n numbers from p on
abbrev pub sum_from : (ℕ → ℕ) → ℕ → ℕ → ℕ
sum_from f p zero = 0
sum_from f p (suc n) = f p + sum_from f (suc p) n

pub sum_from-add : (f g h : ℕ → ℕ) → ((j : ℕ) → f j ≡ g j + h j) → (p n : ℕ) →
    sum_from f p n ≡ sum_from g p n + sum_from h p n
sum_from-add f g h is p zero = refl
sum_from-add f g h is p (suc n) =
    let here = is p in
    let rest = sum_from-add f g h is (suc p) n in
    omega arith

pub sum_from-le : (f g : ℕ → ℕ) → ((j : ℕ) → f j ≤ g j) → (p n : ℕ) → sum_from f p n ≤ sum_from g p n
sum_from-le f g le p zero = omega arith
sum_from-le f g le p (suc n) =
    let here = le p in
    let rest = sum_from-le f g le (suc p) n in
    omega arith

hits_below : (x p n : ℕ) → x < p → sum_from (one_if x) p n ≡ 0
hits_below x p zero below = refl
hits_below x p (suc n) below =
    let here = one_if_other x p (λ e. omega arith) in
    let rest = hits_below x (suc p) n (omega arith) in
    omega arith

-- a position among the n from p on is hit once
pub hits_once : (x p n : ℕ) → p ≤ x → x < p + n → sum_from (one_if x) p n ≡ 1
hits_once x p zero low high = absurd (omega arith)
hits_once x p (suc n) low high = elim (eqb_tells x p) [
  | inl same ↦
      let here = one_if_same x p same.1 in
      let rest = hits_below x (suc p) n (omega arith) in
      omega arith
  | inr apart ↦
      let here = one_if_other x p apart.1 in
      let other = apart.1 in
      elim (dec_lt p x) [
        | yes above ↦ let rest = hits_once x (suc p) n (omega arith) (omega arith) in omega arith
        | no same ↦ absurd (other (omega arith))
      ]
]

-- owners that are all below n are each counted once
pub given_all : (owners : List ℕ) (n : ℕ) → ((i : ℕ) → i < length owners → get_or owners i 0 < n) →
    sum_from (given owners) 0 n ≡ length owners
given_all [] n below = nothing 0 n
  where
    nothing : (p n : ℕ) → sum_from (given []) p n ≡ 0
    nothing p zero = refl
    nothing p (suc n) = let rest = nothing (suc p) n in omega arith
given_all (x ∷ owners) n below =
    let split = sum_from-add (given (x ∷ owners)) (one_if x) (given owners) (given-cons x owners) 0 n in
    let first : x < n = below 0 (omega arith) in
    let here = hits_once x 0 n (omega arith) (omega arith) in
    let rest = given_all owners n (λ i h. below (suc i) (omega arith)) in
    omega arith

-- the weight of position j
abbrev pub weight_of : List ℕ → ℕ → ℕ
weight_of weights j = get_or weights j 0

later : (w : ℕ) (ws : List ℕ) (p n : ℕ) →
    sum_from (weight_of (w ∷ ws)) (suc p) n ≡ sum_from (weight_of ws) p n
later w ws p zero = refl
later w ws p (suc n) = ap (λ s. get_or ws p 0 + s) (later w ws (suc p) n)

-- the weights of all positions sum to the sum of the weights
pub weights_all : (weights : List ℕ) → sum_from (weight_of weights) 0 (length weights) ≡ sum weights
weights_all [] = refl
weights_all (w ∷ ws) =
    let rest = later w ws 0 (length ws) in
    let all = weights_all ws in
    let split = sum_by-cons (λ x. x) w ws in
    omega arith

-- where each term of one sum is at most that of another of the same value, they are the same
pub same_terms : (f g : ℕ → ℕ) → ((j : ℕ) → f j ≤ g j) → (p n : ℕ) →
    sum_from f p n ≡ sum_from g p n → (j : ℕ) → p ≤ j → j < p + n → f j ≡ g j
same_terms f g le p zero same j low high = absurd (omega arith)
same_terms f g le p (suc n) same j low high =
    let here = le p in
    let rest = sum_from-le f g le (suc p) n in
    elim (eqb_tells p j) [
      | inl e ↦ subst (λ i. f i ≡ g i) e.1 (omega arith)
      | inr apart ↦
          let other = apart.1 in
          let past : suc p ≤ j = elim (dec_lt p j) [ yes above ↦ omega arith | no at ↦ absurd (other (omega arith)) ] in
          same_terms f g le (suc p) n (omega arith) j past (omega arith)
    ]
