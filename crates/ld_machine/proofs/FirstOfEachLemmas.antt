-- The first act of all is found among the first acts of the scenarios, one scenario after another.
use Rattle.std.proofs.Common.{Contains, ◌≡◌, ◌<◌, ◌≤◌, ◌+◌, ◌==◌, ◌∙◌, ℕ, zero, suc, Bool, true, false, not, List, [], ◌∷◌, length, Some, arith, refl, sym, subst, slice_get}
use Rattle.std.proofs.Math.Decide.{dec_lt}
use Rattle.std.proofs.lemmas.Bool.{true≢false}
use Rattle.std.proofs.lemmas.Grind.{common_steps}
use Rattle.ld_machine.specs.Plan.{Plan}
use Rattle.ld_machine.specs.State.{State}
use Rattle.ld_machine.specs.Scenario.{Scenario}
use Rattle.ld_machine.specs.Moves.{Move, users_of, moves_of, scenarios}
use Rattle.ld_machine.specs.Order.{is_before, place_of, first_among, first_moves}
use Rattle.ld_machine.specs.Together.{IsActOf, NoneActs, IsFirstActOf, IsFirstBelow, NoneActsBelow}
use Rattle.ld_machine.proofs.ListLemmas.{In, nothing_in, In-filter, filter-In, In-from_any, any-from_In, Contains-from_In}
use Rattle.ld_machine.proofs.OrderLemmas.{is_beaten, unbeaten}
use Rattle.ld_machine.proofs.FirstOfAllLemmas.{false_unless, is_not, not_before_along, before_once, In-of, is_first, first_is, first_by_each}

-- ---- of a list

not_beaten : (moves : List Move) (m other : Move) → is_beaten moves m ≡ false → In other moves → is_before (place_of other) (place_of m) ≡ false
not_beaten moves m other none at = false_unless (is_before (place_of other) (place_of m)) (λ before.
    true≢false (sym (any-from_In (λ x. is_before (place_of x) (place_of m)) other at before) ∙ none))

pub first_tells : (moves : List Move) (m : Move) → Contains (first_among moves) m →
    Contains moves m × ((other : Move) → Contains moves other → is_before (place_of other) (place_of m) ≡ false)
first_tells moves m h =
    let kept = In-filter (λ x. not (is_beaten moves x)) m moves (In-of h) in
    (Contains-from_In m kept.0, λ other at. not_beaten moves m other (is_not (is_beaten moves m) kept.1) (In-of at))

pub first_passes : (moves : List Move) (m : Move) →
    Contains moves m × ((other : Move) → Contains moves other → is_before (place_of other) (place_of m) ≡ false) → Contains (first_among moves) m
first_passes moves m h =
    let none : is_beaten moves m ≡ false = false_unless (is_beaten moves m) (λ beaten.
    let other = In-from_any (λ x. is_before (place_of x) (place_of m)) moves beaten in
    true≢false (sym other.2 ∙ h.1 other.0 (Contains-from_In other.0 other.1))) in
    Contains-from_In m (filter-In (λ x. not (is_beaten moves x)) m (In-of h.0) (rw none refl))

-- of acts that are there, a first one is there
pub some_first : (moves : List Move) (other : Move) → Contains moves other → (f : Move) × Contains (first_among moves) f
some_first [] other h = absurd (nothing_in (In-of h))
some_first (x ∷ xs) other h =
    let f = unbeaten x xs in
    (f.0, Contains-from_In f.0 (filter-In (λ m. not (is_beaten (x ∷ xs) m)) f.0 f.1 (rw f.2 refl)))

-- ---- of scenarios

pub some_is : {A : Type 0} (a b : A) → Some a ≡ Some b → a ≡ b
some_is a b h = cc

module _ (plan : Plan) (state : State) (t : ℕ) where
  -- an act of a scenario is not before a first one of the same scenario
  pub behind_first : (n : ℕ) (f other : Move) → IsFirstActOf plan state t n f → IsActOf plan state t n other → is_before (place_of other) (place_of f) ≡ false
  behind_first n f other first act =
      let same : act.0 ≡ first.0 = some_is act.0 first.0 (sym act.1 ∙ first.1) in
      (first_tells (moves_of (users_of plan state) n first.0 t) f first.2).1 other
      (subst (λ s. Contains (moves_of (users_of plan state) n s t) other) same act.2)

  -- a first act of a scenario is an act of it
  pub first_acts : (n : ℕ) (f : Move) → IsFirstActOf plan state t n f → IsActOf plan state t n f
  first_acts n f first = (first.0, first.1, (first_tells (moves_of (users_of plan state) n first.0 t) f first.2).0)

  -- a first act of all is a first one of its scenario
  pub first_of_its : (m : Move) → Contains (first_moves plan state t) m → (n : ℕ) × IsFirstActOf plan state t n m
  first_of_its m h =
      let told = first_is plan state t m (In-of h) in
      let act = told.0.1 in (
        told.0.0,
        (
          act.0,
          act.1,
          first_passes (moves_of (users_of plan state) told.0.0 act.0 t) m
              (act.2, λ other at. told.1 told.0.0 other (act.0, act.1, at)),
        ),
      )

  pub first_by_firsts : (n : ℕ) (m : Move) → IsActOf plan state t n m →
      ((k : ℕ) (f : Move) → IsFirstActOf plan state t k f → is_before (place_of f) (place_of m) ≡ false) → Contains (first_moves plan state t) m
  first_by_firsts n m act firsts = Contains-from_In m (first_by_each plan state t n m act (λ k other acts.
      let f = some_first (moves_of (users_of plan state) k acts.0 t) other acts.2 in
      let first : IsFirstActOf plan state t k f.0 = (acts.0, acts.1, f.1) in
      (f.0, behind_first k f.0 other first acts, firsts k f.0 first)))

  -- ---- one scenario after another

  last_or_below : (n k : ℕ) → n < k + 1 → (n ≡ k → ⊥) → n < k
  last_or_below n k below other = elim (dec_lt n k) [
    | yes less ↦ less
    | no notless ↦ absurd (other (omega arith))
  ]

  is_same : (n k : ℕ) → (n == k) ≡ true → n ≡ k
  is_same n k h = grind (arith, common_steps)

  is_other : (n k : ℕ) → (n == k) ≡ false → n ≡ k → ⊥
  is_other n k h e = grind (arith, common_steps)

  pub none_at_start : NoneActsBelow plan state t 0
  none_at_start n s below at = absurd (omega arith)

  pub none_below_more : (k : ℕ) → NoneActsBelow plan state t k → ((s : Scenario) → slice_get (scenarios plan state) k ≡ Some s → moves_of (users_of plan state) k s t ≡ []) →
      NoneActsBelow plan state t (k + 1)
  none_below_more k none empty n s below at =
      let P : Bool → Type 0 = λ b. (n == k) ≡ b → moves_of (users_of plan state) n s t ≡ [] in
      let found : P (n == k) = elim (n == k) as P [
        | true ↦ λ e.
            let same : n ≡ k = is_same n k e in
            let here_at = empty s (subst (λ j. slice_get (scenarios plan state) j ≡ Some s) same at) in
            subst (λ j. moves_of (users_of plan state) j s t ≡ []) (sym same) here_at
        | false ↦ λ e. none n s (last_or_below n k below (is_other n k e)) at
      ] in found refl

  -- what is said of all below k and of k is said of all below k + 1
  below_more : (k : ℕ) (m : Move) →
      ((n : ℕ) (other : Move) → n < k → IsActOf plan state t n other → is_before (place_of other) (place_of m) ≡ false) →
      ((other : Move) → IsActOf plan state t k other → is_before (place_of other) (place_of m) ≡ false) →
      (n : ℕ) (other : Move) → n < k + 1 → IsActOf plan state t n other → is_before (place_of other) (place_of m) ≡ false
  below_more k m before last n other below act =
      let P : Bool → Type 0 = λ b. (n == k) ≡ b → is_before (place_of other) (place_of m) ≡ false in
      let found : P (n == k) = elim (n == k) as P [
        | true ↦ λ e. last other (subst (λ j. IsActOf plan state t j other) (is_same n k e) act)
        | false ↦ λ e. before n other (last_or_below n k below (is_other n k e)) act
      ] in found refl

  no_act : (n : ℕ) (other : Move) → ((s : Scenario) → slice_get (scenarios plan state) n ≡ Some s → moves_of (users_of plan state) n s t ≡ []) → IsActOf plan state t n other → ⊥
  no_act n other empty act = nothing_in (subst (λ ms. In other ms) (empty act.0 act.1) (In-of act.2))

  pub first_found : (k : ℕ) (f : Move) → NoneActsBelow plan state t k → IsFirstActOf plan state t k f → IsFirstBelow plan state t (k + 1) f
  first_found k f none first = (
    (k, omega arith, first_acts k f first),
    below_more k f
        (λ n other below act. absurd (no_act n other (λ s at. none n s below at) act))
        (λ other act. behind_first k f other first act),
  )

  pub first_kept_none : (k : ℕ) (m : Move) → IsFirstBelow plan state t k m →
      ((s : Scenario) → slice_get (scenarios plan state) k ≡ Some s → moves_of (users_of plan state) k s t ≡ []) → IsFirstBelow plan state t (k + 1) m
  first_kept_none k m first empty =
      let below : first.0.0 < k = first.0.1 in (
        (first.0.0, omega arith, first.0.2),
        below_more k m first.1 (λ other act. absurd (no_act k other empty act)),
      )

  pub first_kept : (k : ℕ) (m f : Move) → IsFirstBelow plan state t k m → IsFirstActOf plan state t k f → is_before (place_of f) (place_of m) ≡ false →
      IsFirstBelow plan state t (k + 1) m
  first_kept k m f first other_first not_before =
      let below : first.0.0 < k = first.0.1 in (
        (first.0.0, omega arith, first.0.2),
        below_more k m first.1 (λ other act. not_before_along other f m (behind_first k f other other_first act) not_before),
      )

  pub first_replaced : (k : ℕ) (m f : Move) → IsFirstBelow plan state t k m → IsFirstActOf plan state t k f → is_before (place_of f) (place_of m) ≡ true →
      IsFirstBelow plan state t (k + 1) f
  first_replaced k m f first other_first before = (
    (k, omega arith, first_acts k f other_first),
    below_more k f
        (λ n other below act. not_before_along other m f (first.1 n other below act) (before_once (place_of f) (place_of m) before))
        (λ other act. behind_first k f other other_first act),
  )

  stands_below : {A : Type 0} (n : ℕ) (x : A) (xs : List A) → slice_get xs n ≡ Some x → n < length xs
  stands_below n x [] h = absurd (cc)
  stands_below zero x (y ∷ ys) h = omega arith
  stands_below (suc n) x (y ∷ ys) h = let later = stands_below n x ys h in omega arith

  pub first_at_end : (k : ℕ) (m : Move) → length (scenarios plan state) ≤ k → IsFirstBelow plan state t k m → Contains (first_moves plan state t) m
  first_at_end k m all first =
      Contains-from_In m (is_first plan state t first.0.0 m first.0.2
      (λ n other act. let below = stands_below n act.0 (scenarios plan state) act.1 in first.1 n other (omega arith) act))

  pub none_at_end : (k : ℕ) → length (scenarios plan state) ≤ k → NoneActsBelow plan state t k → NoneActs plan state t
  none_at_end k all none n s at = let below = stands_below n s (scenarios plan state) at in none n s (omega arith) at
