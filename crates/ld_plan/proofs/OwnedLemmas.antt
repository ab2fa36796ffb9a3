-- The numbers that a position owns: how many they are, and which; and the arrivals that it owns.
use Rattle.std.proofs.Common.{◌≡◌, ◌<◌, ◌+◌, ◌↔◌, ◌∙◌, ◌==◌, ℕ, Bool, true, false, cond, List, [], ◌∷◌, map, filter, length, slice_index, arith, ap, refl, subst}
use Rattle.std.specs.Prelude.{Contains}
use Rattle.std.specs.List.{range_with_len}
use Rattle.std.specs.List.Sorted.{IsStrictlyIncreasing}
use Rattle.std.proofs.lemmas.Bool.{eq-eqb, eqb-true}
use Rattle.std.proofs.lemmas.List.Elements.{All-contains, All-contains_itself, All-map, All-weaker, Contains-get_or}
use Rattle.std.proofs.lemmas.List.FromFn.{get_or-range_with_len, length-range_with_len}
use Rattle.std.proofs.lemmas.List.Kept.{IsStrictlyIncreasing-filter}
use Rattle.std.proofs.lemmas.List.Sums.{length-filter}
use Rattle.ld_stripe.specs.Striping.{owned_indices, owner_at, share_at}
use Rattle.ld_arrival.specs.Limits.{IsWithinLimits}
use Rattle.ld_arrival.specs.Schedule.{arrival_at, owned_pairs, schedule}
use Rattle.ld_arrival.specs.Timetable.{Timetable, IsPlanned, moment_of, planned, planned_count}
use Rattle.ld_arrival.proofs.CountLemmas.{counted}
use Rattle.ld_arrival.proofs.ScheduleLaws.{in_filter, in_owned, in_schedule}
use Rattle.ld_machine.specs.Plan.{Arrival}
use Rattle.ld_plan.specs.PlanView.{arrival_of}

-- ---- numbers

-- numbers in a row rise
range_rises : (a n : ℕ) → IsStrictlyIncreasing (range_with_len a n)
range_rises a n k within =
    let length_is = length-range_with_len a n in
    let one : slice_index (range_with_len a n) k ≡ a + k = get_or-range_with_len a n k 0 (omega arith) in
    let next : slice_index (range_with_len a n) (k + 1) ≡ a + (k + 1) = get_or-range_with_len a n (k + 1) 0 (omega arith) in
    omega arith

-- and so do those of them that a position owns
pub numbers_rise : (owner : ℕ → ℕ) (j v : ℕ) → IsStrictlyIncreasing (filter (λ x. owner x == j) (range_with_len 0 v))
numbers_rise owner j v = IsStrictlyIncreasing-filter (λ x. owner x == j) (range_with_len 0 v) (range_rises 0 v)

-- a position owns exactly the numbers that go to it
pub number_owned : (owner : ℕ → ℕ) (j v x : ℕ) → x < v → (owner x ≡ j) ↔ Contains (filter (λ k. owner k == j) (range_with_len 0 v)) x
number_owned owner j v x below =
    let kept = in_filter (λ k. owner k == j) (range_with_len 0 v) x in
    let long = length-range_with_len 0 v in
    let there : Contains (range_with_len 0 v) x =
    subst (Contains (range_with_len 0 v)) (get_or-range_with_len 0 v x x below ∙ omega arith)
    (Contains-get_or (range_with_len 0 v) x x (omega arith)) in (
      λ is. kept.1 (there, eq-eqb _ _ is),
      λ has. eqb-true _ _ (kept.0 has).1,
    )

-- it owns as many indices as its share is
pub indices_length : (owners : List ℕ) (j v : ℕ) → length (owned_indices owners j v) ≡ share_at owners j v
indices_length owners j v = length-filter (λ x. owner_at owners x == j) (range_with_len 0 v)

-- ---- arrivals

-- the arrivals that a position owns of a timetable
abbrev pub owned_arrivals : Timetable → List ℕ → ℕ → List Arrival
owned_arrivals timetable owners j = map arrival_of (owned_pairs owners j (schedule timetable))

-- their items are the numbers of those that go to it
items_of_numbers : (timetable : Timetable) (owners : List ℕ) (j : ℕ) (numbers : List ℕ) →
    map (λ (a : Arrival). a.item) (map arrival_of (owned_pairs owners j (map (arrival_at timetable) numbers))) ≡ filter (λ k. owner_at owners k == j) numbers
items_of_numbers timetable owners j [] = refl
items_of_numbers timetable owners j (k ∷ rest) =
    let kept = owned_pairs owners j (map (arrival_at timetable) rest) in
    let P : Bool → Type 0 = λ b.
    map (λ (a : Arrival). a.item) (map arrival_of (cond b (arrival_at timetable k ∷ kept) kept))
    ≡ cond b (k ∷ filter (λ n. owner_at owners n == j) rest) (filter (λ n. owner_at owners n == j) rest)
    in
    let more = items_of_numbers timetable owners j rest in
    elim (owner_at owners k == j) as P [ true ↦ ap (λ items. k ∷ items) more | false ↦ more ]

pub arrival_items : (timetable : Timetable) (owners : List ℕ) (j : ℕ) → IsWithinLimits timetable →
    map (λ (a : Arrival). a.item) (owned_arrivals timetable owners j) ≡ owned_indices owners j (planned_count timetable)
arrival_items timetable owners j limits =
    items_of_numbers timetable owners j (planned timetable)
    ∙ ap (filter (λ k. owner_at owners k == j)) (counted timetable limits).all

-- an owned arrival is planned, and its moment is that of its item
abbrev IsPlannedAs : Timetable → ℕ → ℕ → Type 0
IsPlannedAs timetable item moment = IsPlanned timetable item × (moment ≡ moment_of timetable item)

pub owned_planned : (timetable : Timetable) (owners : List ℕ) (j : ℕ) → IsWithinLimits timetable →
    (a : Arrival) → Contains (owned_arrivals timetable owners j) a → IsPlanned timetable a.item × (a.moment ≡ moment_of timetable a.item)
owned_planned timetable owners j limits a has =
    let pairs = schedule timetable in
    let owned = owned_pairs owners j pairs in
    let each =
    All-weaker (Contains owned) (λ (pair : ℕ × ℕ). IsPlannedAs timetable pair.0 pair.1)
    (λ pair kept. (in_schedule timetable limits pair.0 pair.1).0 ((in_owned owners j pairs pair).0 kept).0)
    owned (All-contains_itself owned) in
    All-contains (λ (b : Arrival). IsPlannedAs timetable b.item b.moment) (owned_arrivals timetable owners j) a
    (All-map (λ (b : Arrival). IsPlannedAs timetable b.item b.moment) arrival_of owned each) has

pub owned_moment : (timetable : Timetable) (owners : List ℕ) (j : ℕ) → IsWithinLimits timetable →
    (a : Arrival) → Contains (owned_arrivals timetable owners j) a → a.moment ≡ moment_of timetable a.item
owned_moment timetable owners j limits a has = (owned_planned timetable owners j limits a has).1
