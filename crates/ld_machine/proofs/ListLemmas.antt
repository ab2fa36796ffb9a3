-- Elements of lists, what tests, filters and maps make of them, and facts of numbers and options.
use Rattle.std.proofs.Common.{Contains, ◌≡◌, ◌==◌, ◌<◌, ◌+◌, ℕ, suc, zero, Bool, true, false, cond, ◌&&◌, ◌||◌, List, [], ◌∷◌, ◌++◌, ◌⊎◌, inl, inr, get_or, length, map, arith, refl, sym, subst, filter, find, flat_map, filter_map, Option, Some, None, slice_get}
use Rattle.std.specs.List.{list_any, list_all, enumerate_from, cons_option}
use Rattle.std.proofs.lemmas.Grind.{common_steps}

-- x is an element of the list
pub data In {A : Type 0} : A → List A → Type 0 where
  here : {x : A} {xs : List A} → In x (x ∷ xs)
  there : {x y : A} {xs : List A} → In x xs → In x (y ∷ xs)

-- both tests hold
pub both_true : (a b : Bool) → (a && b) ≡ true → (a ≡ true) × (b ≡ true)
both_true true true h = (refl, refl)
both_true true false h = absurd (cc)
both_true false b h = absurd (cc)

-- one of two tests holds
pub some_true : (a b : Bool) → (a || b) ≡ true → (a ≡ true) ⊎ (b ≡ true)
some_true true b h = inl refl
some_true false b h = inr h

-- a test that some element passes has such an element
pub In-from_any : {A : Type 0} (p : A → Bool) (xs : List A) → list_any p xs ≡ true → (x : A) × In x xs × (p x ≡ true)
In-from_any p [] h = absurd (cc)
In-from_any p (x ∷ xs) h =
    elim (some_true (p x) (list_any p xs) h) [
      | inl now ↦ (x, here, now)
      | inr later ↦ let found = In-from_any p xs later in (found.0, there found.1, found.2)
    ]

-- and the other way round
pub any-from_In : {A : Type 0} (p : A → Bool) (x : A) {xs : List A} → In x xs → p x ≡ true → list_any p xs ≡ true
any-from_In p x here h = rw h refl
any-from_In p x (there {y = y} more) h = let later = any-from_In p x more h in grind (arith, common_steps, later)

In-filter-head : {A : Type 0} (p : A → Bool) (x y : A) (xs : List A) → p y ≡ true → (In x (filter p xs) → In x xs × (p x ≡ true)) →
    In x (y ∷ filter p xs) → In x (y ∷ xs) × (p x ≡ true)
In-filter-head p x y xs passes more here = (here, passes)
In-filter-head p x y xs passes more (there kept) = let found = more kept in (there found.0, found.1)

-- what a filter keeps was there, and passes
pub In-filter : {A : Type 0} (p : A → Bool) (x : A) (xs : List A) → In x (filter p xs) → In x xs × (p x ≡ true)
In-filter p x [] h = elim h [ ]
In-filter p x (y ∷ xs) h =
    let P : Bool → Type 0 = λ b. (p y ≡ b) → In x (cond b (y ∷ filter p xs) (filter p xs)) → In x (y ∷ xs) × (p x ≡ true)
    in let found : P (p y) = elim (p y) as P [
      | true ↦ λ passes kept. In-filter-head p x y xs passes (In-filter p x xs) kept
      | false ↦ λ fails kept. let more = In-filter p x xs kept in (there more.0, more.1)
    ]
    in found refl h

-- what passes is kept
pub filter-In : {A : Type 0} (p : A → Bool) (x : A) {xs : List A} → In x xs → p x ≡ true → In x (filter p xs)
filter-In p x (here {xs = xs}) h = rw h here
filter-In p x (there {y = y} {xs = xs} more) h =
    let P : Bool → Type 0 = λ b. In x (cond b (y ∷ filter p xs) (filter p xs))
    in elim (p y) as P [ true ↦ there (filter-In p x more h) | false ↦ filter-In p x more h ]

-- an element of a map is the image of one
pub In-map : {A B : Type 0} (f : A → B) (y : B) (xs : List A) → In y (map f xs) → (x : A) × In x xs × (f x ≡ y)
In-map f y [] h = elim h [ ]
In-map f y (x ∷ xs) here = (x, here, refl)
In-map f y (x ∷ xs) (there more) = let found = In-map f y xs more in (found.0, there found.1, found.2)

-- and the image of an element is one of the images
pub map-In : {A B : Type 0} (f : A → B) (x : A) {xs : List A} → In x xs → In (f x) (map f xs)
map-In f x here = here
map-In f x (there more) = there (map-In f x more)

-- what a search finds is there, and passes
pub found_in : {A : Type 0} (p : A → Bool) (y : A) (xs : List A) → find p xs ≡ Some y → In y xs × (p y ≡ true)
found_in p y [] h = absurd (cc)
found_in {A} p y (x ∷ rest) h =
    let P : Bool → Type 0 = λ b. p x ≡ b → cond b (Some x) (find p rest) ≡ Some y → In y (x ∷ rest) × (p y ≡ true) in
    let found : P (p x) = elim (p x) as P [
      | true ↦ λ passes e. let same : x ≡ y = cc in subst (λ z. In z (x ∷ rest) × (p z ≡ true)) same (here, passes)
      | false ↦ λ fails e. let later = found_in p y rest e in (there later.0, later.1)
    ] in found refl h

-- an element of two lists in a row is one of either
pub In-append : {A : Type 0} (x : A) (xs ys : List A) → In x (xs ++ ys) → In x xs ⊎ In x ys
In-append x [] ys h = inr h
In-append x (y ∷ xs) ys here = inl here
In-append x (y ∷ xs) ys (there more) =
    elim (In-append x xs ys more) [ inl first ↦ inl (there first) | inr second ↦ inr second ]

-- an element of what each element gives comes from one
pub In-flat_map : {A B : Type 0} (f : A → List B) (y : B) (xs : List A) → In y (flat_map f xs) → (x : A) × In x xs × In y (f x)
In-flat_map f y [] h = elim h [ ]
In-flat_map f y (x ∷ xs) h =
    elim (In-append y (f x) (flat_map f xs) h) [
      | inl now ↦ (x, here, now)
      | inr later ↦ let found = In-flat_map f y xs later in (found.0, there found.1, found.2)
    ]

-- an element by its place is one
pub In-from_Contains : {A : Type 0} (x : A) (xs : List A) (k : ℕ) → k < length xs → get_or xs k x ≡ x → In x xs
In-from_Contains x [] k below at = absurd (omega arith)
In-from_Contains x (y ∷ xs) zero below at = subst (λ z. In x (z ∷ xs)) (sym at) here
In-from_Contains x (y ∷ xs) (suc k) below at = there (In-from_Contains x xs k (omega arith) at)

-- nothing is in the empty list
pub nothing_in : {A : Type 0} {x : A} → In x [] → ⊥
nothing_in h = elim h [ ]

In-filter_map-head : {A B : Type 0} (f : A → Option B) (x : A) (y z : B) (xs : List A) → f x ≡ Some z →
    (In y (filter_map f xs) → (x' : A) × In x' xs × (f x' ≡ Some y)) →
    In y (z ∷ filter_map f xs) → (x' : A) × In x' (x ∷ xs) × (f x' ≡ Some y)
In-filter_map-head f x y z xs e more here = (x, here, e)
In-filter_map-head f x y z xs e more (there h) = let later = more h in (later.0, there later.1, later.2)

-- an element of what a filter makes of each element comes from one
pub In-filter_map : {A B : Type 0} (f : A → Option B) (y : B) (xs : List A) → In y (filter_map f xs) → (x : A) × In x xs × (f x ≡ Some y)
In-filter_map {A} {B} f y [] h = elim h [ ]
In-filter_map {A} {B} f y (x ∷ xs) h =
    let P : Option B → Type 0 = λ o. (f x ≡ o) → In y (cons_option o (filter_map f xs)) → (x' : A) × In x' (x ∷ xs) × (f x' ≡ Some y) in
    let found : P (f x) = elim (f x) as P [
      | None ↦ λ e more. let later = In-filter_map f y xs more in (later.0, there later.1, later.2)
      | Some z ↦ λ e more. In-filter_map-head f x y z xs e (In-filter_map f y xs) more
    ] in found refl h

-- an element with its number stands at that place
pub In-enumerate : {A : Type 0} (k : ℕ) (p : ℕ × A) (xs : List A) → In p (enumerate_from k xs) →
    In p.1 xs × ((j : ℕ) × (p.0 ≡ k + j) × (slice_get xs j ≡ Some p.1))
In-enumerate k p [] h = elim h [ ]
In-enumerate k p (y ∷ ys) here = (here, (0, omega arith, refl))
In-enumerate k p (y ∷ ys) (there more) =
    let later = In-enumerate (k + 1) p ys more in
    let place : p.0 ≡ k + suc later.1.0 = let e : p.0 ≡ (k + 1) + later.1.0 = later.1.1 in omega arith in
    (there later.0, (suc later.1.0, place, later.1.2))

-- each element passes a test that all pass
pub all_at : {A : Type 0} (p : A → Bool) (x : A) {xs : List A} → In x xs → list_all p xs ≡ true → p x ≡ true
all_at p x (here {xs = xs}) h = (both_true (p x) (list_all p xs) h).0
all_at p x (there {y = y} {xs = xs} more) h = all_at p x more (both_true (p y) (list_all p xs) h).1

-- an element is one by its place
pub Contains-from_In : {A : Type 0} (x : A) {xs : List A} → In x xs → Contains xs x
Contains-from_In x (here {xs = xs}) = (0, omega arith, refl)
Contains-from_In x (there {y = y} {xs = xs} more) =
    let later = Contains-from_In x more in
    let below : later.0 < length xs = later.1 in
    (suc later.0, omega arith, later.2)

-- an element of a list of one or two
pub In-one : {A : Type 0} (x y : A) → In x (y ∷ []) → y ≡ x
In-one x y here = refl
In-one x y (there h) = absurd (nothing_in h)

pub in_two : {A : Type 0} (x a b : A) → In x (a ∷ b ∷ []) → (a ≡ x) ⊎ (b ≡ x)
in_two x a b here = inl refl
in_two x a b (there more) = inr (In-one x b more)

pub number_itself : (n : ℕ) → (n == n) ≡ true
number_itself n = grind (arith, common_steps)

pub some_not_none : {A : Type 0} {x : A} → Some x ≡ None → ⊥
some_not_none e = cc
