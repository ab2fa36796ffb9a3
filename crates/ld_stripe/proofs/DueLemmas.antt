-- Before the period ends some position is due.
use Rattle.std.proofs.Common.{◌≡◌, ◌<◌, ◌≤◌, ◌*◌, ◌⊎◌, ◌∙◌, ℕ, zero, suc, List, inl, inr, length, get_or, arith, ap, ap₂, sym}
use Rattle.std.specs.Prelude.{sum}
use Rattle.std.proofs.Math.Decide.{dec_lt}
use Rattle.std.proofs.Math.Nat.{mul-add, add-mul, mul-zero}
use Rattle.ld_stripe.specs.Striping.{IsDue, FollowsWeights, given}
use Rattle.ld_stripe.specs.Pattern.{AreGiven}
use Rattle.ld_stripe.proofs.FirstDueLemmas.{in_range}
use Rattle.ld_stripe.proofs.GivenLemmas.{given_all, sum_from, weight_of, weights_all}

-- owners that follow the weights are positions of these
pub owners_in_range : (weights owners : List ℕ) → FollowsWeights weights owners →
    (i : ℕ) → i < length owners → get_or owners i 0 < length weights
owners_in_range weights owners follows i below =
    let due = (follows i below).due in
    in_range weights (get_or owners i 0) due.weighted

-- The n positions from p on were given more than their part of the indices, or have no weight.
record IsAhead (weights before : List ℕ) (p n : ℕ) : Type 0 where
  at_least : length before * sum_from (weight_of weights) p n ≤ sum_from (given before) p n * sum weights
  more : 0 < sum_from (weight_of weights) p n →
      length before * sum_from (weight_of weights) p n < sum_from (given before) p n * sum weights

pub due_or_not : (weights before : List ℕ) (p : ℕ) → IsDue weights before p ⊎ (IsDue weights before p → ⊥)
due_or_not weights before p =
    elim (dec_lt 0 (weight_of weights p)) [
      | no weightless ↦ inr (λ due. let h = due.weighted in omega arith)
      | yes weighted ↦ elim (dec_lt (length before * weight_of weights p) (given before p * sum weights)) [
        | yes over ↦ inr (λ due. let h = due.behind in omega arith)
        | no within ↦ inl (record { weighted = weighted; behind = omega arith })
      ]
    ]

-- position p isn't due, and the positions behind it are ahead
ahead_from : (weights before : List ℕ) (p n : ℕ) → (IsDue weights before p → ⊥) →
    IsAhead weights before (suc p) n → IsAhead weights before p (suc n)
ahead_from weights before p n not_due rest =
    let weights_split = mul-add (length before) (weight_of weights p) (sum_from (weight_of weights) (suc p) n) in
    let given_split = add-mul (given before p) (sum_from (given before) (suc p) n) (sum weights) in
    let rest_least = rest.at_least in
    elim (dec_lt 0 (weight_of weights p)) [
      | no weightless ↦
          let none : weight_of weights p ≡ 0 = omega arith in
          let nothing : length before * weight_of weights p ≡ 0 = ap (λ w. length before * w) none ∙ mul-zero (length before) in
          record { at_least = omega arith; more = λ h. let rest_more = rest.more (omega arith) in omega arith }
      | yes weighted ↦
          let over : length before * weight_of weights p < given before p * sum weights =
          elim (dec_lt (length before * weight_of weights p) (given before p * sum weights)) [
            | yes over ↦ over
            | no within ↦ absurd (not_due (record { weighted = weighted; behind = omega arith }))
          ] in
          record { at_least = omega arith; more = λ h. omega arith }
    ]

due_or_ahead : (weights before : List ℕ) (p n : ℕ) →
    ((j : ℕ) × IsDue weights before j) ⊎ IsAhead weights before p n
due_or_ahead weights before p zero = inr record {
  at_least = let e = mul-zero (length before) in omega arith;
  more = λ h. absurd (omega arith);
}
due_or_ahead weights before p (suc n) =
    elim (due_or_ahead weights before (suc p) n) [
      | inl found ↦ inl found
      | inr rest ↦ elim (due_or_not weights before p) [
        | inl due ↦ inl (p, due)
        | inr not_due ↦ inr (ahead_from weights before p n not_due rest)
      ]
    ]

-- before the period ends some position is due
pub some_due : (weights owners : List ℕ) → FollowsWeights weights owners → length owners < sum weights →
    (j : ℕ) × IsDue weights owners j
some_due weights owners follows short =
    elim (due_or_ahead weights owners 0 (length weights)) [
      | inl found ↦ found
      | inr ahead ↦
          let total = weights_all weights in
          let counted = given_all owners (length weights) (owners_in_range weights owners follows) in
          let more = ahead.more (omega arith) in
          let same = rw (total, counted) at more in
          absurd (omega arith)
    ]

-- what the code compares is what a position that is due is behind by
counts_part : (weights owners counts : List ℕ) (period j : ℕ) → AreGiven weights owners counts →
    sum weights ≡ period → j < length weights →
    get_or counts j 0 * period ≡ given owners j * sum weights
counts_part weights owners counts period j are whole below =
    let all = are.each_has in
    ap₂ (λ a b. a * b) (are.counted j (omega arith)) (sym whole)

pub due_from_counts : (weights owners counts : List ℕ) (period j : ℕ) → AreGiven weights owners counts →
    sum weights ≡ period → j < length weights → 0 < get_or weights j 0 →
    get_or counts j 0 * period ≤ length owners * get_or weights j 0 → IsDue weights owners j
due_from_counts weights owners counts period j are whole below weighted part =
    let same = counts_part weights owners counts period j are whole below in
    record { weighted = weighted; behind = omega arith }

pub counts_from_due : (weights owners counts : List ℕ) (period j : ℕ) → AreGiven weights owners counts →
    sum weights ≡ period → j < length weights → IsDue weights owners j →
    get_or counts j 0 * period ≤ length owners * get_or weights j 0
counts_from_due weights owners counts period j are whole below due =
    let same = counts_part weights owners counts period j are whole below in
    let behind = due.behind in
    omega arith
