-- The least number that passes a test, and the numbers in front of those that fail.
use Rattle.std.proofs.Common.{◌≡◌, ◌<◌, ◌≤◌, ◌+◌, ◌∙◌, ℕ, Bool, true, false, zero, suc, cond, inl, inr, arith, refl, ap, sym, subst}
use Rattle.std.specs.Prelude.{Option, None, Some, find}
use Rattle.std.specs.List.{range_with_len}
use Rattle.std.proofs.Math.Decide.{dec_lt}
use Rattle.std.proofs.lemmas.Bool.{both_ways, cases_Bool}

-- x is the least number from a on and below b that passes, or none where none does
abbrev pub IsLeast : (ℕ → Bool) → ℕ → ℕ → Option ℕ → Type 0
IsLeast p a b None = (t : ℕ) → a ≤ t → t < b → p t ≡ false
IsLeast p a b (Some t) = (a ≤ t) × (t < b) × (p t ≡ true) × ((s : ℕ) → a ≤ s → s < t → p s ≡ false)

fails_from : (p : ℕ → Bool) (a b : ℕ) → p a ≡ false → ((s : ℕ) → a + 1 ≤ s → s < b → p s ≡ false) → (s : ℕ) → a ≤ s → s < b → p s ≡ false
fails_from p a b fails later s above below =
    elim (dec_lt a s) [
      | yes behind ↦ later s (omega arith) below
      | no here ↦ let at : s ≡ a = omega arith in ap p at ∙ fails
    ]

one_more : (p : ℕ → Bool) (a n : ℕ) → p a ≡ false → (x : Option ℕ) → IsLeast p (a + 1) (a + 1 + n) x → IsLeast p a (a + suc n) x
one_more p a n fails None later = λ t above below. fails_from p a (a + 1 + n) fails later t above (omega arith)
one_more p a n fails (Some t) later = (omega arith, omega arith, later.2, fails_from p a t fails later.3)

-- `find` gives the least
pub least_of : (p : ℕ → Bool) (a n : ℕ) → IsLeast p a (a + n) (find p (range_with_len a n))
least_of p a zero = λ t above below. absurd (omega arith)
least_of p a (suc n) =
    let later = find p (range_with_len (a + 1) n) in
    let at = λ (b : Bool). IsLeast p a (a + suc n) (cond b (Some a) later) in
    elim (cases_Bool (p a)) [
      | inl passes ↦ subst at (sym passes) (omega arith, omega arith, passes, λ s above below. absurd (omega arith))
      | inr fails ↦ subst at (sym fails) (one_more p a n fails later (least_of p (a + 1) n))
    ]

pub least_to : (p : ℕ → Bool) (n : ℕ) → IsLeast p 0 (n + 1) (find p (range_with_len 0 (n + 1)))
least_to p n =
    let whole : 0 + (n + 1) ≡ n + 1 = omega arith in
    subst (λ b. IsLeast p 0 b (find p (range_with_len 0 (n + 1)))) whole (least_of p 0 (n + 1))

-- there is one least
pub one_least : (p : ℕ → Bool) (a b : ℕ) (x y : Option ℕ) → IsLeast p a b x → IsLeast p a b y → x ≡ y
one_least p a b None None none same = refl
one_least p a b None (Some t) none at = absurd (both_ways (p t) (none t at.0 at.1) at.2)
one_least p a b (Some t) None at none = absurd (both_ways (p t) (none t at.0 at.1) at.2)
one_least p a b (Some s) (Some t) first second =
    elim (dec_lt s t) [
      | yes below ↦ absurd (both_ways (p s) (second.3 s first.0 below) first.2)
      | no above ↦ elim (dec_lt t s) [
        | yes below ↦ absurd (both_ways (p t) (first.3 t second.0 below) second.2)
        | no same ↦ let equal : s ≡ t = omega arith in ap (λ (x : ℕ). Some x) equal
      ]
    ]

-- of the numbers below m those pass that are below this one
pub record FallsAt (p : ℕ → Bool) (m : ℕ) : Type 0 where
  pub number : ℕ
  pub within : number ≤ m
  pub front : (k : ℕ) → k < number → p k ≡ true
  pub behind : (k : ℕ) → number ≤ k → k < m → p k ≡ false

-- a test that each number below a passing one passes falls at a number
pub falls_at : (p : ℕ → Bool) (m : ℕ) → ((j k : ℕ) → j ≤ k → p k ≡ true → p j ≡ true) → FallsAt p m
falls_at p zero falls = record {
  number = 0;
  within = omega arith;
  front = λ k below. absurd (omega arith);
  behind = λ k above below. absurd (omega arith);
}
falls_at p (suc m) falls =
    elim (cases_Bool (p m)) [
      | inl passes ↦ record {
        number = suc m;
        within = omega arith;
        front = λ k below. falls k m (omega arith) passes;
        behind = λ k above below. absurd (omega arith);
      }
      | inr fails ↦
          let rest = falls_at p m falls in
          record {
            number = rest.number;
            within = let within = rest.within in omega arith;
            front = rest.front;
            behind = λ k above below. elim (dec_lt k m) [
              | yes front ↦ rest.behind k above front
              | no at ↦ let last : k ≡ m = omega arith in ap p last ∙ fails
            ];
          }
    ]
