-- What is in a schedule and in the part of a position, and that the parts are the whole.
use Rattle.std.proofs.Common.{◌≡◌, ◌<◌, ◌≤◌, ◌+◌, ◌↔◌, ◌∙◌, ℕ, Bool, true, zero, suc, List, [], ◌∷◌, ◌++◌, cond, inl, inr, length, map, nat_eq, not, arith, refl, ap, sym, subst, ap₂}
use Rattle.std.specs.List.{All, Contains, count_by, sum_by, filter, flat_map, range_with_len}
use Rattle.std.specs.List.Sorted.{IsPermutation}
use Rattle.std.proofs.Math.Decide.{dec_lt}
use Rattle.std.proofs.lemmas.Bool.{both_ways, cases_Bool, eq-eqb, ne_eqb, eqb-true, false≢true}
use Rattle.std.proofs.lemmas.List.Concat.{flat_map-cons}
use Rattle.std.proofs.lemmas.List.Elements.{All-contains, All-contains_itself, All-filter, All-head, All-weaker, Contains-append_cases, Contains-get_or, filter_passes}
use Rattle.std.proofs.lemmas.List.FromFn.{get_or-map-range_with_len, length-map-range_with_len}
use Rattle.std.proofs.lemmas.List.Sums.{length-filter, sum_by-cons}
use Rattle.std.proofs.lemmas.List.Sorted.{Contains-permutation, IsPermutation-append_right, IsPermutation-filter_both, IsPermutation-refl, IsPermutation-trans}
use Rattle.ld_stripe.specs.Striping.{owner_at, share_at}
use Rattle.ld_arrival.specs.Limits.{IsWithinLimits}
use Rattle.ld_arrival.specs.Schedule.{arrival_at, owned_pairs, schedule}
use Rattle.ld_arrival.specs.Timetable.{Timetable, IsPlanned, moment_of, planned, planned_count}
use Rattle.ld_arrival.proofs.CountLemmas.{counted}

-- of numbers below n, f gives what the list of all f k has
in_front : {X : Type 0} (f : ℕ → X) (n : ℕ) (x : X) → Contains (map f (range_with_len 0 n)) x ↔ ((k : ℕ) × (k < n) × (f k ≡ x))
in_front f n x = (
  λ has.
      let long = length-map-range_with_len f 0 n in
      let at = has.1 in
      let below : has.0 < n = omega arith in
      (has.0, below, sym (get_or-map-range_with_len f 0 n has.0 has.0 x below (omega arith)) ∙ has.2),
  λ at.
      let long = length-map-range_with_len f 0 n in
      let below = at.1 in
      subst (Contains (map f (range_with_len 0 n))) (get_or-map-range_with_len f 0 n at.0 at.0 x below (omega arith) ∙ at.2)
      (Contains-get_or (map f (range_with_len 0 n)) at.0 x (omega arith)),
)

pub in_schedule : (timetable : Timetable) → IsWithinLimits timetable → (k moment : ℕ) →
    Contains (schedule timetable) (k, moment) ↔ (IsPlanned timetable k × (moment ≡ moment_of timetable k))
in_schedule timetable limits k moment =
    let is = counted timetable limits in
    let whole : schedule timetable ≡ map (arrival_at timetable) (range_with_len 0 (planned_count timetable)) = ap (map (arrival_at timetable)) is.all in
    let front = in_front (arrival_at timetable) (planned_count timetable) (k, moment) in (
      λ has.
          let at = front.0 (subst (λ (pairs : List (ℕ × ℕ)). Contains pairs (k, moment)) whole has) in
          let same : at.0 ≡ k = ap (λ (pair : ℕ × ℕ). pair.0) at.2 in
          ((is.those k).1 (subst (λ n. n < planned_count timetable) same at.1), sym (ap (λ (pair : ℕ × ℕ). pair.1) at.2) ∙ ap (moment_of timetable) same),
      λ fits.
          subst (λ (pairs : List (ℕ × ℕ)). Contains pairs (k, moment)) (sym whole)
          (front.1 (k, (is.those k).0 fits.0, ap (λ (m : ℕ). (k, m)) (sym fits.1))),
    )

-- what a test keeps of a list is what is in the list and passes
pub in_filter : {X : Type 0} (p : X → Bool) (xs : List X) (x : X) → Contains (filter p xs) x ↔ (Contains xs x × (p x ≡ true))
in_filter p xs x = (
  λ has. (
    All-contains (Contains xs) (filter p xs) x (All-filter p (Contains xs) xs (All-contains_itself xs)) has,
    All-contains (λ y. p y ≡ true) (filter p xs) x (filter_passes p xs) has,
  ),
  λ fits.
      elim (Contains-append_cases (filter p xs) (filter (λ y. not (p y)) xs) x (Contains-permutation _ _ x (IsPermutation-filter_both p (λ y. not (p y)) (λ y. refl) xs) fits.0)) [
        | inl kept ↦ kept
        | inr other ↦
            let fails = All-contains (λ y. not (p y) ≡ true) (filter (λ y. not (p y)) xs) x (filter_passes (λ y. not (p y)) xs) other in
            absurd (false≢true (sym (ap not fits.1) ∙ fails))
      ],
)

pub in_owned : (owners : List ℕ) (j : ℕ) (pairs : List (ℕ × ℕ)) (pair : ℕ × ℕ) →
    Contains (owned_pairs owners j pairs) pair ↔ (Contains pairs pair × (owner_at owners pair.0 ≡ j))
in_owned owners j pairs pair =
    let kept = in_filter (λ (one : ℕ × ℕ). nat_eq (owner_at owners one.0) j) pairs pair in (
      λ has. let fits = kept.0 has in (fits.0, eqb-true _ _ fits.1),
      λ fits. kept.1 (fits.0, eq-eqb _ _ fits.1),
    )

-- a stricter test behind another keeps what it keeps of the whole list
filter_twice : {X : Type 0} (p q : X → Bool) → ((x : X) → p x ≡ true → q x ≡ true) → (xs : List X) → filter p (filter q xs) ≡ filter p xs
filter_twice p q stricter [] = refl
filter_twice p q stricter (x ∷ xs) =
    let rest = filter_twice p q stricter xs in
    elim (cases_Bool (q x)) [
      | inl passes ↦
          ap (λ b. filter p (cond b (x ∷ filter q xs) (filter q xs))) passes
          ∙ ap (λ ys. cond (p x) (x ∷ ys) ys) rest
      | inr fails ↦ elim (cases_Bool (p x)) [
        | inl stricter_passes ↦ absurd (both_ways (q x) fails (stricter x stricter_passes))
        | inr drops ↦
            ap (λ b. filter p (cond b (x ∷ filter q xs) (filter q xs))) fails
            ∙ rest
            ∙ ap (λ b. cond b (x ∷ filter p xs) (filter p xs)) (sym drops)
      ]
    ]

-- the elements of each owner from p on, for n owners, one owner after another
abbrev parts : {X : Type 0} → (X → ℕ) → ℕ → ℕ → List X → List X
parts owner p n xs = flat_map (λ j. filter (λ x. nat_eq (owner x) j) xs) (range_with_len p n)

-- the elements of all owners but p
abbrev others : {X : Type 0} → (X → ℕ) → ℕ → List X → List X
others owner p xs = filter (λ x. not (nat_eq (owner x) p)) xs

-- owners behind p have the same parts of these
parts_of_others : {X : Type 0} (owner : X → ℕ) (p from n : ℕ) (xs : List X) → p < from →
    parts owner from n (others owner p xs) ≡ parts owner from n xs
parts_of_others owner p from zero xs behind = refl
parts_of_others owner p from (suc n) xs behind =
    flat_map-cons (λ j. filter (λ x. nat_eq (owner x) j) (others owner p xs)) from (range_with_len (from + 1) n)
    ∙ ap₂ (λ ys zs. ys ++ zs)
    (filter_twice (λ x. nat_eq (owner x) from) (λ x. not (nat_eq (owner x) p))
    (λ x is. let at = eqb-true (owner x) from is in ap not (ne_eqb (owner x) p (λ e. omega arith))) xs)
    (parts_of_others owner p (from + 1) n xs (omega arith))
    ∙ sym (flat_map-cons (λ j. filter (λ x. nat_eq (owner x) j) xs) from (range_with_len (from + 1) n))

-- the owners of these stand behind p
owned_behind : {X : Type 0} (owner : X → ℕ) (p n : ℕ) (xs : List X) →
    All (λ x. (p ≤ owner x) × (owner x < p + suc n)) xs →
    All (λ x. (p + 1 ≤ owner x) × (owner x < p + 1 + n)) (others owner p xs)
owned_behind owner p n xs owned =
    All-weaker (Contains (others owner p xs)) (λ x. (p + 1 ≤ owner x) × (owner x < p + 1 + n))
    (λ x has.
    let kept = (in_filter (λ y. not (nat_eq (owner y) p)) xs x).0 has in
    let range = All-contains (λ y. (p ≤ owner y) × (owner y < p + suc n)) xs x owned kept.0 in
    let apart : owner x ≡ p → ⊥ = λ is. false≢true (sym (ap not (eq-eqb (owner x) p is)) ∙ kept.1) in (
      elim (dec_lt p (owner x)) [
        | yes above ↦ omega arith
        | no at ↦ absurd (apart (omega arith))
      ],
      omega arith,
    ))
    (others owner p xs) (All-contains_itself (others owner p xs))

-- the parts of n owners are the whole, where these own everything
parts_whole : {X : Type 0} (owner : X → ℕ) (p n : ℕ) (xs : List X) →
    All (λ x. (p ≤ owner x) × (owner x < p + n)) xs → IsPermutation xs (parts owner p n xs)
parts_whole owner p zero [] owned = IsPermutation-refl []
parts_whole owner p zero (x ∷ xs) owned =
    let range = All-head (λ y. (p ≤ owner y) × (owner y < p + 0)) x xs owned in
    absurd (omega arith)
parts_whole owner p (suc n) xs owned =
    let own = filter (λ x. nat_eq (owner x) p) xs in
    let rest = others owner p xs in
    let split = IsPermutation-filter_both (λ x. nat_eq (owner x) p) (λ x. not (nat_eq (owner x) p)) (λ x. refl) xs in
    let deeper = parts_whole owner (p + 1) n rest (owned_behind owner p n xs owned) in
    let joined = IsPermutation-append_right own rest (parts owner (p + 1) n rest) deeper in
    let same = ap (λ ys. own ++ ys) (parts_of_others owner p (p + 1) n xs (omega arith)) in
    subst (IsPermutation xs)
    (same ∙ sym (flat_map-cons (λ j. filter (λ x. nat_eq (owner x) j) xs) p (range_with_len (p + 1) n)))
    (IsPermutation-trans xs (own ++ rest) (own ++ parts owner (p + 1) n rest) split joined)

-- where each element has one of n owners, the elements of all owners are the whole
pub each_owned_once : {X : Type 0} (owner : X → ℕ) (n : ℕ) → ((x : X) → owner x < n) → (xs : List X) →
    IsPermutation xs (flat_map (λ j. filter (λ x. nat_eq (owner x) j) xs) (range_with_len 0 n))
each_owned_once owner n below xs =
    parts_whole owner 0 n xs
    (All-weaker (Contains xs) (λ x. (0 ≤ owner x) × (owner x < 0 + n)) (λ x _. let b = below x in (omega arith, omega arith))
    xs (All-contains_itself xs))

-- and so are the owned pairs of all, where each index has one of n owners
pub owned_whole : (owners : List ℕ) (n : ℕ) → ((x : ℕ) → owner_at owners x < n) → (pairs : List (ℕ × ℕ)) →
    IsPermutation pairs (flat_map (λ j. owned_pairs owners j pairs) (range_with_len 0 n))
owned_whole owners n below pairs = each_owned_once (λ (pair : ℕ × ℕ). owner_at owners pair.0) n (λ pair. below pair.0) pairs

sum_over_map : {X : Type 0} (g : X → ℕ) (f : ℕ → X) (ks : List ℕ) → sum_by g (map f ks) ≡ sum_by (λ k. g (f k)) ks
sum_over_map g f [] = refl
sum_over_map g f (k ∷ ks) =
    sum_by-cons g (f k) (map f ks)
    ∙ ap (λ n. g (f k) + n) (sum_over_map g f ks)
    ∙ sym (sum_by-cons (λ x. g (f x)) k ks)

-- of a schedule a position owns as many pairs as it has a share of the arrivals
pub owned_count : (timetable : Timetable) → IsWithinLimits timetable → (owners : List ℕ) (j : ℕ) →
    length (owned_pairs owners j (schedule timetable)) ≡ share_at owners j (planned_count timetable)
owned_count timetable limits owners j =
    length-filter (λ (pair : ℕ × ℕ). nat_eq (owner_at owners pair.0) j) (schedule timetable)
    ∙ sum_over_map (λ (pair : ℕ × ℕ). cond (nat_eq (owner_at owners pair.0) j) 1 0) (arrival_at timetable) (planned timetable)
    ∙ ap (λ (ks : List ℕ). count_by (λ x. nat_eq (owner_at owners x) j) ks) (counted timetable limits).all
