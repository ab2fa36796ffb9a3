-- What is said of each number of a range, when it changes for one of them.
use Rattle.std.proofs.Common.{◌≡◌, ◌<◌, ◌≤◌, ◌+◌, ◌-◌, ◌==◌, ℕ, zero, suc, Bool, true, false, List, ◌∷◌, Some, map, set, slice_get, refl, sym, ap, ap₂, ◌∙◌, arith, rules}
use Rattle.std.specs.List.{range_with_len}
use Rattle.std.proofs.lemmas.Grind.{common_steps}
use Rattle.std.proofs.lemmas.List.FromFn.{get_or-map-range_with_len, length-map-range_with_len}
use Rattle.std.proofs.lemmas.Option.{slice_get-get_or}

-- functions that agree on the range
pub same_on_range : {A : Type 0} (f g : ℕ → A) (a n : ℕ) → ((k : ℕ) → a ≤ k → k < a + n → f k ≡ g k) → map f (range_with_len a n) ≡ map g (range_with_len a n)
same_on_range f g a zero same = refl
same_on_range {A} f g a (suc n) same =
    ap₂ (λ (x : A) (rest : List A). x ∷ rest) (same a (omega arith) (omega arith))
    (same_on_range f g (a + 1) n (λ k above below. same k (omega arith) (omega arith)))

-- functions that agree but at one number
pub changed_on_range : {A : Type 0} (f g : ℕ → A) (a n one : ℕ) → a ≤ one → ((k : ℕ) → (k ≡ one → ⊥) → f k ≡ g k) →
    map g (range_with_len a n) ≡ set (map f (range_with_len a n)) (one - a) (g one)
changed_on_range f g a zero one above same = search rules
changed_on_range {A} f g a (suc n) one above same =
    let P : Bool → Type 0 = λ b. (a == one) ≡ b → g a ∷ map g (range_with_len (a + 1) n) ≡ set (f a ∷ map f (range_with_len (a + 1) n)) (one - a) (g one) in
    let from : P (a == one) = elim (a == one) as P [
      | true ↦ λ e.
          let here : a ≡ one = grind (arith, common_steps) in
          let place : one - a ≡ 0 = omega arith in
          let rest = same_on_range g f (a + 1) n (λ k over below. sym (same k (λ (q : k ≡ one). absurd (omega arith)))) in
          rw (place, rest, here) refl
      | false ↦ λ e.
          let apart : a ≡ one → ⊥ = λ (q : a ≡ one). (let t : (a == one) ≡ true = grind (arith, common_steps) in absurd (cc)) in
          let past : a + 1 ≤ one = above_one a one above apart in
          let place : one - a ≡ suc (one - (a + 1)) = omega arith in
          let rest = changed_on_range f g (a + 1) n one past same in
          rw (place, rest, same a apart) refl
    ] in from refl
  where
    above_one : (m n : ℕ) → m ≤ n → (m ≡ n → ⊥) → m + 1 ≤ n
    above_one m n h apart = omega arith

-- the one of a number
pub at_range : {A : Type 0} (f : ℕ → A) (n k : ℕ) → k < n → slice_get (map f (range_with_len 1 n)) k ≡ Some (f (k + 1))
at_range f n k below =
    let long = length-map-range_with_len f 1 n in
    let got = slice_get-get_or (map f (range_with_len 1 n)) k (f (k + 1)) (omega arith) in
    got ∙ ap Some (get_or-map-range_with_len f 1 n k (k + 1) (f (k + 1)) below (omega arith))
