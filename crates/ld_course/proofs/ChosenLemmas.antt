-- Which of some users is chosen.
use Rattle.std.proofs.Common.{◌≡◌, ◌==◌, ◌||◌, ℕ, Bool, true, false, cond, List, [], ◌∷◌, None, Some, slice_get, refl, subst, arith}
use Rattle.std.specs.List.{list_any}
use Rattle.std.proofs.lemmas.Grind.{common_steps}
use Rattle.ld_machine.proofs.ListLemmas.{In, here, there}
use Rattle.ld_course.specs.Chosen.{chosen_of}

-- a number that stands in a list passes the test for it
any_same : (user : ℕ) {numbers : List ℕ} → In user numbers → list_any (λ other. other == user) numbers ≡ true
any_same user (here {xs = xs}) = grind (arith, common_steps)
any_same user (there {y = y} {xs = xs} more) = let later = any_same user more in grind (arith, common_steps, later)

same_in : (user : ℕ) (numbers : List ℕ) → list_any (λ other. other == user) numbers ≡ true → In user numbers
same_in user [] h = absurd (cc)
same_in user (x ∷ xs) h =
    let P : Bool → Type 0 = λ b. (x == user) ≡ b → (b || list_any (λ other. other == user) xs) ≡ true → In user (x ∷ xs) in
    let found : P (x == user) = elim (x == user) as P [
      | true ↦ λ e more. let same : x ≡ user = grind (arith, common_steps) in subst (λ (k : ℕ). In k (x ∷ xs)) same here
      | false ↦ λ e more. there (same_in user xs more)
    ] in found refl h

first_in : (numbers : List ℕ) (user : ℕ) → slice_get numbers 0 ≡ Some user → In user numbers
first_in [] user e = absurd (cc)
first_in (x ∷ xs) user e = let same : x ≡ user = cc in subst (λ (k : ℕ). In k (x ∷ xs)) same here

pub chosen_in : (prefer : ℕ) (numbers : List ℕ) (user : ℕ) → chosen_of prefer numbers ≡ Some user → In user numbers
chosen_in prefer numbers user e =
    let P : Bool → Type 0 = λ b. list_any (λ other. other == prefer) numbers ≡ b → cond b (Some prefer) (slice_get numbers 0) ≡ Some user → In user numbers in
    let found : P (list_any (λ other. other == prefer) numbers) = elim (list_any (λ other. other == prefer) numbers) as P [
      | true ↦ λ any same. let is : prefer ≡ user = cc in subst (λ (k : ℕ). In k numbers) is (same_in prefer numbers any)
      | false ↦ λ any same. first_in numbers user same
    ] in found refl e

pub chosen_preferred : (prefer : ℕ) (numbers : List ℕ) (user : ℕ) → chosen_of prefer numbers ≡ Some user → In prefer numbers → user ≡ prefer
chosen_preferred prefer numbers user e h =
    let same : chosen_of prefer numbers ≡ Some prefer = rw (any_same prefer h) refl in
    cc

pub chosen_none : (prefer : ℕ) (numbers : List ℕ) → chosen_of prefer numbers ≡ None → numbers ≡ []
chosen_none prefer [] e = refl
chosen_none prefer (x ∷ xs) e =
    let P : Bool → Type 0 = λ b. cond b (Some prefer) (Some x) ≡ None → x ∷ xs ≡ [] in
    let from : P (list_any (λ other. other == prefer) (x ∷ xs)) = elim (list_any (λ other. other == prefer) (x ∷ xs)) as P [ true ↦ λ h. absurd (cc) | false ↦ λ h. absurd (cc) ] in
    from e
