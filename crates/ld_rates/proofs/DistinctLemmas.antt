-- The items of a ticker are distinct.
use Rattle.std.proofs.Common.{◌≡◌, ◌<◌, ◌+◌, ℕ, Bool, zero, suc, true, false, cond, ◌&&◌, ◌==◌, nat_lt, List, [], ◌∷◌, map, filter, refl, ap, ◌∙◌, arith}
use Rattle.std.specs.List.{list_any, range_with_len}
use Rattle.std.proofs.lemmas.Grind.{common_steps}
use Rattle.ld_arrival.specs.Schedule.{arrival_at, owned_pairs, schedule}
use Rattle.ld_arrival.specs.Timetable.{Timetable, moment_of, end_of, planned, planned_below}
use Rattle.ld_stripe.specs.Striping.{owner_at}
use Rattle.ld_machine.specs.Plan.{Arrival, ArrivalRate, owned_items}
use Rattle.ld_machine.specs.Settled.{is_distinct}
use Rattle.ld_rates.specs.Shows.{arrival_of}

-- a number isn't among those behind it, nor among what is kept of them
not_behind : (p : ℕ → Bool) (x a n : ℕ) → x < a → list_any (λ k. k == x) (filter p (range_with_len a n)) ≡ false
not_behind p x a zero below = refl
not_behind p x a (suc n) below =
    let later = not_behind p x (a + 1) n (omega arith) in
    let P : Bool → Type 0 = λ b. list_any (λ k. k == x) (cond b (a ∷ filter p (range_with_len (a + 1) n)) (filter p (range_with_len (a + 1) n))) ≡ false in
    elim (p a) as P [ true ↦ grind (arith, common_steps, later) | false ↦ later ]

-- what is kept of numbers in a row is distinct
kept_distinct : (p : ℕ → Bool) (a n : ℕ) → is_distinct (filter p (range_with_len a n)) ≡ true
kept_distinct p a zero = refl
kept_distinct p a (suc n) =
    let later = kept_distinct p (a + 1) n in
    let P : Bool → Type 0 = λ b. is_distinct (cond b (a ∷ filter p (range_with_len (a + 1) n)) (filter p (range_with_len (a + 1) n))) ≡ true in
    let first : P true = rw (not_behind p a (a + 1) n (omega arith), later) refl in
    elim (p a) as P [ true ↦ first | false ↦ later ]

-- a filter of what a filter keeps
filter_twice : (p q : ℕ → Bool) (xs : List ℕ) → filter q (filter p xs) ≡ filter (λ k. p k && q k) xs
filter_twice p q [] = refl
filter_twice p q (x ∷ xs) =
    let later = filter_twice p q xs in
    let P : Bool → Type 0 = λ b. filter q (cond b (x ∷ filter p xs) (filter p xs)) ≡ cond (b && q x) (x ∷ filter (λ k. p k && q k) xs) (filter (λ k. p k && q k) xs) in
    let Q : Bool → Type 0 = λ c. cond c (x ∷ filter q (filter p xs)) (filter q (filter p xs)) ≡ cond c (x ∷ filter (λ k. p k && q k) xs) (filter (λ k. p k && q k) xs) in
    let kept : Q (q x) = elim (q x) as Q [ true ↦ ap (λ (more : List ℕ). x ∷ more) later | false ↦ later ] in
    elim (p x) as P [ true ↦ kept | false ↦ later ]

-- the items of owned pairs are the numbers of the arrivals that are owned
items_kept : (timetable : Timetable) (owners : List ℕ) (j : ℕ) (ks : List ℕ) →
    map (λ (a : Arrival). a.item) (map arrival_of (owned_pairs owners j (map (arrival_at timetable) ks))) ≡ filter (λ k. owner_at owners k == j) ks
items_kept timetable owners j [] = refl
items_kept timetable owners j (k ∷ rest) =
    let later = items_kept timetable owners j rest in
    let mine = owned_pairs owners j (map (arrival_at timetable) rest) in
    let P : Bool → Type 0 = λ b.
    map (λ (a : Arrival). a.item) (map arrival_of (cond b (arrival_at timetable k ∷ mine) mine))
    ≡ cond b (k ∷ filter (λ x. owner_at owners x == j) rest) (filter (λ x. owner_at owners x == j) rest) in
    elim (owner_at owners k == j) as P [ true ↦ ap (λ (more : List ℕ). k ∷ more) later | false ↦ later ]

pub items_distinct : (timetable : Timetable) (owners : List ℕ) (j pre most : ℕ) →
    is_distinct (owned_items (ArrivalRate pre most (map arrival_of (owned_pairs owners j (schedule timetable))))) ≡ true
unfolding planned
items_distinct timetable owners j pre most =
    let row = range_with_len 0 (planned_below timetable) in
    let early = λ (k : ℕ). nat_lt (moment_of timetable k) (end_of timetable) in
    let mine = λ (k : ℕ). owner_at owners k == j in
    ap is_distinct (items_kept timetable owners j (filter early row) ∙ filter_twice early mine row)
    ∙ kept_distinct (λ k. early k && mine k) 0 (planned_below timetable)
