-- The first position that is due, among those below a bound.
use Rattle.std.proofs.Common.{◌≡◌, ◌≢◌, ◌<◌, ◌≤◌, ◌+◌, ℕ, List, inl, inr, get_or, length, arith, refl, subst, sym}
use Rattle.std.proofs.Math.Decide.{dec_lt}
use Rattle.std.proofs.lemmas.Bool.Decides.{eqb_tells}
use Rattle.std.proofs.lemmas.List.{get_or_past}
use Rattle.ld_stripe.specs.Striping.{IsDue, IsFirstDue, Precedes}

-- Of the positions below n, none is due where `most` is 0; else `owner`, of weight `most`, is the
-- first that is due.
pub record Leads (weights before : List ℕ) (n most owner : ℕ) : Type 0 where
  pub none : most ≡ 0 → (k : ℕ) → k < n → IsDue weights before k → ⊥
  pub due : 0 < most → IsDue weights before owner
  pub heavy : 0 < most → get_or weights owner 0 ≡ most
  pub first : 0 < most → (k : ℕ) → k < n → IsDue weights before k → k ≢ owner → Precedes weights owner k
  pub below : 0 < most → owner < n

pub leads_none : (weights before : List ℕ) (owner : ℕ) → Leads weights before 0 0 owner
leads_none weights before owner = record {
  none = λ e k below due. omega arith;
  due = λ h. absurd (omega arith);
  heavy = λ h. absurd (omega arith);
  first = λ h k below due other. absurd (omega arith);
  below = λ h. absurd (omega arith);
}

-- what comes first is at least as heavy
preceding_weight : (weights : List ℕ) (j k : ℕ) → Precedes weights j k → get_or weights k 0 ≤ get_or weights j 0
preceding_weight weights j k (inl h) = omega arith
preceding_weight weights j k (inr h) = omega arith

-- the weight of a position below n that is due is at most that of the first
weight_at_most : (weights before : List ℕ) (n most owner k : ℕ) → Leads weights before n most owner →
    k < n → IsDue weights before k → get_or weights k 0 ≤ most
weight_at_most weights before n most owner k h below due =
    elim (dec_lt 0 most) [
      | no zero ↦ absurd (h.none (omega arith) k below due)
      | yes some ↦
          let heavy : get_or weights owner 0 ≡ most = h.heavy some in
          elim (dec_lt k owner) [
            | yes less ↦ let p = preceding_weight weights owner k (h.first some k below due (λ e. omega arith)) in omega arith
            | no other ↦ elim (dec_lt owner k) [
              | yes more ↦ let p = preceding_weight weights owner k (h.first some k below due (λ e. omega arith)) in omega arith
              | no same ↦ let e : k ≡ owner = omega arith in
                  subst (λ z. get_or weights z 0 ≤ most) (sym e) (omega arith)
            ]
          ]
    ]

-- position n is due and heavier than all before it
pub leads_takes : (weights before : List ℕ) (n most owner : ℕ) → Leads weights before n most owner →
    most < get_or weights n 0 → IsDue weights before n → Leads weights before (n + 1) (get_or weights n 0) n
leads_takes weights before n most owner h heavier due = record {
  none = λ e k below d. omega arith;
  due = λ some. due;
  heavy = λ some. refl;
  first = λ some k below d other.
      let lighter = weight_at_most weights before n most owner k h (omega arith) d in
      inl (omega arith);
  below = λ some. omega arith;
}

-- position n isn't due, or not heavier than the first before it
pub leads_keeps : (weights before : List ℕ) (n most owner : ℕ) → Leads weights before n most owner →
    (most < get_or weights n 0 → IsDue weights before n → ⊥) → Leads weights before (n + 1) most owner
leads_keeps weights before n most owner h not_due = record {
  none = λ e k below d. elim (dec_lt k n) [
    | yes less ↦ h.none e k less d
    | no more ↦ let same : k ≡ n = omega arith in
        let here = subst (IsDue weights before) same d in not_due (let w = here.weighted in omega arith) here
  ];
  due = h.due;
  heavy = h.heavy;
  first = λ some k below d other. elim (dec_lt k n) [
    | yes less ↦ h.first some k less d other
    | no more ↦ let same : k ≡ n = omega arith in
        let here = subst (IsDue weights before) same d in
        let heavy : get_or weights owner 0 ≡ most = h.heavy some in
        let below_n : owner < n = h.below some in
        let at : get_or weights k 0 ≡ get_or weights n 0 = subst (λ z. get_or weights k 0 ≡ get_or weights z 0) same refl in
        elim (dec_lt (get_or weights k 0) most) [
          | yes lighter ↦ inl (omega arith)
          | no as_heavy ↦ elim (dec_lt most (get_or weights n 0)) [
            | yes heavier ↦ absurd (not_due heavier here)
            | no same_weight ↦ inr (omega arith, omega arith)
          ]
        ]
  ];
  below = λ some. let b : owner < n = h.below some in omega arith;
}

-- a position with a weight is one of the weights
pub in_range : (weights : List ℕ) (j : ℕ) → 0 < get_or weights j 0 → j < length weights
in_range weights j h = elim (dec_lt j (length weights)) [
  | yes below ↦ below
  | no past ↦ let e = get_or_past weights j 0 (omega arith) in absurd (omega arith)
]

-- where some position is due, the leader of all is the first that is due
pub leads_all : (weights before : List ℕ) (most owner j : ℕ) → Leads weights before (length weights) most owner →
    IsDue weights before j → IsFirstDue weights before owner
leads_all weights before most owner j h due =
    let j_weighted = due.weighted in
    let weight = weight_at_most weights before (length weights) most owner j h (in_range weights j j_weighted) due in
    let some : 0 < most = omega arith in
    record {
      due = h.due some;
      first = λ k d other. let k_weighted = d.weighted in h.first some k (in_range weights k k_weighted) d other;
    }

-- there is at most one first
pub one_first : (weights before : List ℕ) (j k : ℕ) → IsFirstDue weights before j → IsFirstDue weights before k → j ≡ k
one_first weights before j k a b = elim (eqb_tells j k) [
  | inl same ↦ same.1
  | inr other ↦ absurd (apart (a.first k b.due (λ e. other.1 (sym e))) (b.first j a.due other.1))
]
  where
    apart : Precedes weights j k → Precedes weights k j → ⊥
    apart (inl x) (inl y) = omega arith
    apart (inl x) (inr y) = omega arith
    apart (inr x) (inl y) = omega arith
    apart (inr x) (inr y) = omega arith
