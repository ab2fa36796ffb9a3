-- The order of acts has first ones, and they have one place.
use Rattle.std.proofs.Common.{◌≡◌, ◌≢◌, ℕ, Bool, true, false, not, ◌||◌, ◌==◌, if◌then◌else◌, ◌∙◌, List, [], ◌∷◌, length, arith, refl, sym, ap, subst}
use Rattle.std.proofs.lemmas.Bool.{true≢false}
use Rattle.std.specs.List.{list_any}
use Rattle.std.proofs.Math.Decide.{dec_lt}
use Rattle.std.proofs.lemmas.Grind.{common_steps}
use Rattle.ld_machine.specs.Moves.{Move, StopScenario, ReleaseUser, TakeUser, AnswerArrival, StartIteration, DropIteration, CloseScenario}
use Rattle.ld_machine.specs.Order.{is_before, place_of, first_among}
use Rattle.ld_machine.proofs.ListLemmas.{In, here, there, any-from_In, In-from_any, In-filter, filter-In}

-- two places of one length, of which neither is before the other, are the same
pub before_total : (a b : List ℕ) → length a ≡ length b → is_before a b ≡ false → is_before b a ≡ false → a ≡ b
before_total [] [] same ab ba = refl
before_total [] (y ∷ b) same ab ba = absurd (omega arith)
before_total (x ∷ a) [] same ab ba = absurd (omega arith)
before_total (x ∷ a) (y ∷ b) same ab ba =
    elim (dec_lt x y) [
      | yes less ↦ absurd (grind (arith, common_steps))
      | no notless ↦ elim (dec_lt y x) [
        | yes more ↦ absurd (grind (arith, common_steps))
        | no notmore ↦
            let head : x ≡ y = omega arith in
            let ab' : is_before a b ≡ false = grind (arith, common_steps) in
            let ba' : is_before b a ≡ false = grind (arith, common_steps) in
            let tail = before_total a b (omega arith) ab' ba' in
            rw (head, tail) refl
      ]
    ]

-- no place is before itself
pub before_itself : (a : List ℕ) → is_before a a ≡ false
before_itself [] = refl
before_itself (x ∷ a) = grind (arith, common_steps, before_itself a)

-- what is before a place is before what that is before
pub before_along : (a b c : List ℕ) → is_before a b ≡ true → is_before b c ≡ true → is_before a c ≡ true
before_along (x ∷ a) (y ∷ b) (z ∷ c) ab bc = grind (arith, common_steps, before_along a b c)
before_along [] b c ab bc = absurd (cc)
before_along (x ∷ a) [] c ab bc = absurd (cc)
before_along (x ∷ a) (y ∷ b) [] ab bc = absurd (cc)

-- how long the place of an act of this rank is
abbrev place_length : ℕ → ℕ
place_length rank = if (rank == 3) || (rank == 4) then 3 else 2

-- the rank of a place
abbrev rank_in : List ℕ → ℕ
rank_in [] = 0
rank_in (rank ∷ rest) = rank

length-place_of : (m : Move) → length (place_of m) ≡ place_length (rank_in (place_of m))
length-place_of (StopScenario n) = refl
length-place_of (ReleaseUser n user) = refl
length-place_of (TakeUser n user slot) = refl
length-place_of (AnswerArrival n due item until answer) = refl
length-place_of (StartIteration n user item until) = refl
length-place_of (DropIteration n item) = refl
length-place_of (CloseScenario n) = refl

-- the same of places whose length goes by their rank
before_ranked : (a b : List ℕ) → length a ≡ place_length (rank_in a) → length b ≡ place_length (rank_in b) →
    is_before a b ≡ false → is_before b a ≡ false → a ≡ b
before_ranked [] [] at bt ab ba = refl
before_ranked [] (y ∷ b) at bt ab ba = absurd (omega arith)
before_ranked (x ∷ a) [] at bt ab ba = absurd (omega arith)
before_ranked (x ∷ a) (y ∷ b) at bt ab ba =
    elim (dec_lt x y) [
      | yes less ↦ absurd (grind (arith, common_steps))
      | no notless ↦ elim (dec_lt y x) [
        | yes more ↦ absurd (grind (arith, common_steps))
        | no notmore ↦
            let head : x ≡ y = omega arith in
            let lengths : length (x ∷ a) ≡ length (y ∷ b) = at ∙ ap place_length head ∙ sym bt in
            before_total (x ∷ a) (y ∷ b) lengths ab ba
      ]
    ]

-- acts of which neither is before the other have one place
pub one_place : (a b : Move) → is_before (place_of a) (place_of b) ≡ false → is_before (place_of b) (place_of a) ≡ false →
    place_of a ≡ place_of b
one_place a b = before_ranked (place_of a) (place_of b) (length-place_of a) (length-place_of b)

-- some of these acts is before this one
abbrev pub is_beaten : List Move → Move → Bool
is_beaten moves m = list_any (λ other. is_before (place_of other) (place_of m)) moves

or_false : (a b : Bool) → a ≡ false → b ≡ false → (a || b) ≡ false
or_false a b ea eb = rw (ea, eb) refl

-- an act before one that no act of a list is before is unbeaten too
unbeaten_along : (x m : Move) (moves : List Move) → is_before (place_of x) (place_of m) ≡ true → is_beaten moves m ≡ false → is_beaten moves x ≡ false
unbeaten_along x m moves before unbeaten_m =
    let P : Bool → Type 0 = λ v. is_beaten moves x ≡ v → is_beaten moves x ≡ false in
    let tested : P (is_beaten moves x) = elim (is_beaten moves x) as P [
      | false ↦ λ e. e
      | true ↦ λ e.
          let z = In-from_any (λ other. is_before (place_of other) (place_of x)) moves e in
          let before_m = before_along (place_of z.0) (place_of x) (place_of m) z.2 before in
          let beaten_m : is_beaten moves m ≡ true = any-from_In (λ other. is_before (place_of other) (place_of m)) z.0 z.1 before_m in
          absurd (true≢false (sym beaten_m ∙ unbeaten_m))
    ] in tested refl

-- of acts of a list that isn't empty, one is beaten by none of them
pub unbeaten : (x : Move) (xs : List Move) → (m : Move) × In m (x ∷ xs) × (is_beaten (x ∷ xs) m ≡ false)
unbeaten x [] = (x, here, grind (arith, common_steps, before_itself (place_of x)))
unbeaten x (y ∷ ys) =
    let m = unbeaten y ys in
    let P : Bool → Type 0 = λ v. is_before (place_of x) (place_of m.0) ≡ v → (m : Move) × In m (x ∷ y ∷ ys) × (is_beaten (x ∷ y ∷ ys) m ≡ false) in
    let found : P (is_before (place_of x) (place_of m.0)) = elim (is_before (place_of x) (place_of m.0)) as P [
      | false ↦ λ e. (m.0, there m.1, or_false (is_before (place_of x) (place_of m.0)) (is_beaten (y ∷ ys) m.0) e m.2)
      | true ↦ λ e. (x, here, or_false (is_before (place_of x) (place_of x)) (is_beaten (y ∷ ys) x) (before_itself (place_of x)) (unbeaten_along x m.0 (y ∷ ys) e m.2))
    ] in found refl

-- where some act of a list is there, a first one is
pub first_there : (x : Move) (xs : List Move) → first_among (x ∷ xs) ≢ []
first_there x xs none_first =
    let m = unbeaten x xs in
    let kept : In m.0 (first_among (x ∷ xs)) = filter-In (λ m. not (is_beaten (x ∷ xs) m)) m.0 m.1 (rw m.2 refl) in
    nothing_in (subst (λ ms. In m.0 ms) none_first kept)
  where
    nothing_in : {m : Move} → In m [] → ⊥
    nothing_in h = elim h [ ]

pub none_first : (moves : List Move) → first_among moves ≡ [] → moves ≡ []
none_first [] h = refl
none_first (x ∷ xs) h = absurd (first_there x xs h)

-- first acts of a list have one place
pub first_place : (moves : List Move) (a b : Move) → In a (first_among moves) → In b (first_among moves) → place_of a ≡ place_of b
first_place moves a b ha hb =
    let fa = In-filter (λ m. not (is_beaten moves m)) a moves ha in
    let fb = In-filter (λ m. not (is_beaten moves m)) b moves hb in
    one_place a b (unbeaten_by moves a b fa.0 fb.1) (unbeaten_by moves b a fb.0 fa.1)
  where
    unbeaten_by : (moves : List Move) (a b : Move) → In a moves → not (is_beaten moves b) ≡ true → is_before (place_of a) (place_of b) ≡ false
    unbeaten_by moves a b there_a h =
        let P : Bool → Type 0 = λ v. is_before (place_of a) (place_of b) ≡ v → is_before (place_of a) (place_of b) ≡ false in
        let tested : P (is_before (place_of a) (place_of b)) = elim (is_before (place_of a) (place_of b)) as P [
          | false ↦ λ e. e
          | true ↦ λ e. let beaten = any-from_In (λ other. is_before (place_of other) (place_of b)) a there_a e in absurd (grind (arith, common_steps))
        ] in tested refl
