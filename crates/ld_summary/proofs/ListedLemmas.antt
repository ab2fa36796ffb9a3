-- The lines of the owned arrivals are those of the numbers that the instance owns.
use Rattle.std.proofs.Common.{◌≡◌, ◌<◌, ◌≤◌, ◌+◌, ◌++◌, ◌∙◌, ◌==◌, ◌↔◌, ◌∷◌, [], ℕ, zero, suc, Bool, true, false, List, length, map, cond, arith, ap, sym, refl, subst}
use Rattle.std.proofs.lemmas.Bool.{eq-eqb, eqb-true}
use Rattle.std.proofs.lemmas.List.{length-map}
use Rattle.std.proofs.lemmas.Option.{MatchOption-at_some, same_Some, slice_get-map}
use Rattle.std.proofs.lemmas.Slice.Zip.{AllZip-left}
use Rattle.std.specs.List.{AllByRecursion, concat, filter, range_with_len}
use Rattle.std.specs.Option.{IsSomeAnd}
use Rattle.std.specs.Prelude.{Contains, None, Option, Some, option_map, slice_get}
use Rattle.ld_stripe.specs.Striping.{Striping, owned_indices, owner_at, share_at}
use Rattle.ld_arrival.proofs.CountLemmas.{counted}
use Rattle.ld_arrival.specs.Limits.{IsWithinLimits}
use Rattle.ld_arrival.specs.Schedule.{arrival_at}
use Rattle.ld_arrival.specs.Timetable.{Constant, Ramping, Timetable, planned, planned_count}
use Rattle.ld_machine.specs.Plan as machine
use Rattle.ld_machine.specs.Plan.{Part, owned_items}
use Rattle.ld_machine.specs.Scenario.{executor_arrivals}
use Rattle.ld_options.specs.Ranges.{IsInRange, IsScenarioInRange}
use Rattle.ld_options.specs.declared.executor.Executor.{Executor}
use Rattle.ld_options.specs.declared.executor.Executor.TheVariants.{SharedIterations, PerVuIterations, ConstantVus, ConstantArrivals, RampingArrivals}
use Rattle.ld_options.specs.declared.scenario.Scenario.{Scenario}
use Rattle.ld_plan.proofs.ExecutorLemmas.{within_limits}
use Rattle.ld_plan.proofs.OwnedLemmas.{arrival_items, number_owned}
use Rattle.ld_plan.specs.Executor.{arrival_rate, owned_executor, timetable_of, whole_count}
use Rattle.ld_plan.specs.IsPlanOf.{IsPartOf, part_of, sample_room, whole_of}
use Rattle.ld_plan.specs.PartView.{PartView}
use Rattle.ld_plan.specs.Plan.{IsMade}
use Rattle.ld_plan.specs.PlanView.{PlanView, Whole, arrival_count, arrival_of}
use Rattle.ld_summary.proofs.PlanTextLemmas.{IsAt, as_many, is_owned, line_at, lines_below, of_this, owned_is, there}
use Rattle.ld_summary.specs.PlanText.{arrival_line, arrival_lines}

-- ---- lists

-- a test of what f makes is a test of what it is made of
filter_made : {X Y : Type 0} (p : Y → Bool) (f : X → Y) (xs : List X) → filter p (map f xs) ≡ map f (filter (λ x. p (f x)) xs)
filter_made p f [] = refl
filter_made p f (x ∷ xs) =
    let rest = filter_made p f xs in
    elim (p (f x)) as (λ b. cond b (f x ∷ filter p (map f xs)) (filter p (map f xs)) ≡ map f (cond b (x ∷ filter (λ y. p (f y)) xs) (filter (λ y. p (f y)) xs))) [
      | true ↦ ap (λ ys. f x ∷ ys) rest
      | false ↦ rest
    ]

-- two tests that agree on numbers keep the same of them
filter_same : (p q : ℕ → Bool) (a n : ℕ) → ((k : ℕ) → k < a + n → p k ≡ q k) → filter p (range_with_len a n) ≡ filter q (range_with_len a n)
filter_same p q a zero same = refl
filter_same p q a (suc n) same =
    let rest = filter_same p q (a + 1) n (λ k below. same k (omega arith)) in
    ap (λ b. cond b (a ∷ filter p (range_with_len (a + 1) n)) (filter p (range_with_len (a + 1) n))) (same a (omega arith))
    ∙ ap (λ ks. cond (q a) (a ∷ ks) ks) rest

map_twice : {X Y Z : Type 0} (f : Y → Z) (g : X → Y) (xs : List X) → map f (map g xs) ≡ map (λ x. f (g x)) xs
map_twice f g [] = refl
map_twice f g (x ∷ xs) = ap (λ ys. f (g x) ∷ ys) (map_twice f g xs)

-- what holds of all elements holds of the one at a place
all_at : {X : Type 0} (P : X → Type 0) (xs : List X) (n : ℕ) (x : X) → AllByRecursion P xs → slice_get xs n ≡ Some x → P x
all_at P [] n x all at = absurd (cc)
all_at P (y ∷ ys) zero x all at = subst P (same_Some _ _ at) all.0
all_at P (y ∷ ys) (suc n) x all at = all_at P ys n x all.1 at

-- ---- one scenario

-- the lines of the owned arrivals are those of all numbers below how many there are
abbrev AreTold : Part → Option Timetable → Type 0
AreTold part timetable = lines_below part timetable (arrival_count timetable) ≡ arrival_lines part

of_arrivals : (part : Part) (pre most : ℕ) (timetable : Timetable) (owners : List ℕ) (j : ℕ) → IsWithinLimits timetable →
    part.executor ≡ arrival_rate pre most timetable owners j → AreTold part (Some timetable)
of_arrivals part pre most timetable owners j limits is =
    let goes_here : ℕ → Bool = λ k. owner_at owners k == j in
    let items : owned_items part.executor ≡ owned_indices owners j (planned_count timetable) =
    ap owned_items is ∙ arrival_items timetable owners j limits in
    let same : (k : ℕ) → k < 0 + planned_count timetable → is_owned part k ≡ goes_here k =
    λ k below.
    let its =
    subst (λ (ks : List ℕ). (owner_at owners k ≡ j) ↔ Contains ks k) (sym items)
    (number_owned (owner_at owners) j (planned_count timetable) k (omega (arith, below))) in
    sym (owned_is part k (goes_here k) ((λ holds. its.0 (eqb-true _ _ holds)), (λ has. eq-eqb _ _ (its.1 has)))) in
    let those : List ℕ = filter goes_here (planned timetable) in
    ap (map (line_at part (Some timetable)))
    (filter_same (is_owned part) goes_here 0 (planned_count timetable) same ∙ ap (filter goes_here) (sym (counted timetable limits).all))
    ∙ sym (map_twice (arrival_line part) (λ k. arrival_of (arrival_at timetable k)) those)
    ∙ ap (map (arrival_line part)) (sym (map_twice arrival_of (arrival_at timetable) those))
    ∙ ap (λ pairs. map (arrival_line part) (map arrival_of pairs)) (sym (filter_made (λ pair. owner_at owners pair.0 == j) (arrival_at timetable) (planned timetable)))
    ∙ ap (λ (e : machine.Executor). map (arrival_line part) (executor_arrivals e)) (sym is)

no_arrivals : (part : Part) → executor_arrivals part.executor ≡ [] → AreTold part None
no_arrivals part none = sym (ap (map (arrival_line part)) none)

of_executor : (part : Part) (e : Executor) (owners : List ℕ) (striping : Striping) (j : ℕ) → IsInRange e →
    part.executor ≡ owned_executor e owners striping j → AreTold part (timetable_of e)
of_executor part (SharedIterations vus iterations max_duration) owners striping j ranges is = no_arrivals part (ap executor_arrivals is)
of_executor part (PerVuIterations vus iterations max_duration) owners striping j ranges is = no_arrivals part (ap executor_arrivals is)
of_executor part (ConstantVus vus duration) owners striping j ranges is = no_arrivals part (ap executor_arrivals is)
of_executor part (ConstantArrivals rate unit duration pre max) owners striping j ranges is =
    of_arrivals part (share_at striping.owners j pre) (share_at striping.owners j max) (Constant rate unit duration) owners j
    (within_limits (ConstantArrivals rate unit duration pre max) (Constant rate unit duration) ranges refl) is
of_executor part (RampingArrivals start_rate unit stages pre max) owners striping j ranges is =
    of_arrivals part (share_at striping.owners j pre) (share_at striping.owners j max) (Ramping start_rate unit stages) owners j
    (within_limits (RampingArrivals start_rate unit stages pre max) (Ramping start_rate unit stages) ranges refl) is

-- ---- one scenario of a plan

-- what stands at a place inside a list
found_at : {X : Type 0} (xs : List X) (n : ℕ) → n < length xs → (x : X) × (slice_get xs n ≡ Some x)
found_at [] n inside = absurd (omega arith)
found_at (x ∷ xs) zero inside = (x, refl)
found_at (x ∷ xs) (suc n) inside = found_at xs n (omega arith)

-- the part of a plan, and the scenario of the whole test beside it
pub some_at : (seen : PlanView) (n : ℕ) → IsMade seen → n < length seen.plan.parts → (part : Part) × ((whole : Whole) × IsAt seen n part whole)
some_at seen n made inside =
    let plan = made.is_plan in
    let long : length seen.plan.parts ≡ length plan.views = ap (λ (ps : List Part). length ps) plan.parts ∙ length-map plan.views (λ (v : PartView). v.part) in
    let found = found_at plan.views n (omega arith) in
    let view : PartView = found.0 in (
      view.part,
      (
        view.whole,
        record {
          part_at =
              ap (λ (ps : List Part). slice_get ps n) plan.parts
              ∙ slice_get-map (λ (v : PartView). v.part) plan.views n
              ∙ ap (option_map (λ (v : PartView). v.part)) found.1;
          whole_at =
              ap (λ (ws : List Whole). slice_get ws n) plan.wholes
              ∙ slice_get-map (λ (v : PartView). v.whole) plan.views n
              ∙ ap (option_map (λ (v : PartView). v.whole)) found.1;
        },
      ),
    )

-- the part is what a position owns of a scenario whose numbers are in their ranges, and the whole is that scenario
record IsOf (part : Part) (whole : Whole) : Type 0 where
  scenario : Scenario
  room : ℕ
  striping : Striping
  items : Striping
  position : ℕ
  in_range : IsScenarioInRange scenario
  part_is : part ≡ part_of room striping items position scenario
  whole_is : whole ≡ whole_of scenario

is_of : (seen : PlanView) (n : ℕ) (part : Part) (whole : Whole) → IsMade seen → n < length seen.plan.parts → IsAt seen n part whole → IsOf part whole
is_of seen n part whole made inside at =
    let plan = made.is_plan in
    let many = as_many seen made in
    let found_scenario = found_at seen.options.scenarios n (omega arith) in
    let s : Scenario = found_scenario.0 in
    let Owns = λ (x : Scenario). IsPartOf (sample_room seen.options.scripts.scripts x.script) plan.are_parts.striping seen.position x in
    let beside =
    MatchOption-at_some (Unit {0}) (λ (x : Scenario). IsSomeAnd (slice_get plan.views n) (Owns x)) s found_scenario.1
    (AllZip-left Owns seen.options.scenarios plan.views plan.are_parts.owned n) in
    let found = there (slice_get plan.views n) (Owns s) beside in
    let view : PartView = found.0 in
    let own = found.2 in
    let part_at : slice_get seen.plan.parts n ≡ Some view.part =
    ap (λ (ps : List Part). slice_get ps n) plan.parts ∙ slice_get-map (λ (v : PartView). v.part) plan.views n ∙ ap (option_map (λ (v : PartView). v.part)) found.1 in
    let whole_at : slice_get seen.wholes n ≡ Some view.whole =
    ap (λ (ws : List Whole). slice_get ws n) plan.wholes ∙ slice_get-map (λ (v : PartView). v.whole) plan.views n ∙ ap (option_map (λ (v : PartView). v.whole)) found.1 in
    record {
      scenario = s;
      room = sample_room seen.options.scripts.scripts s.script;
      striping = plan.are_parts.striping;
      items = own.items;
      position = seen.position;
      in_range = all_at IsScenarioInRange seen.options.scenarios n s made.sound.in_range found_scenario.1;
      part_is = same_Some _ _ (sym at.part_at ∙ part_at) ∙ own.part_is;
      whole_is = same_Some _ _ (sym at.whole_at ∙ whole_at) ∙ own.whole_is;
    }

pub listed : (seen : PlanView) (n : ℕ) (part : Part) (whole : Whole) → IsMade seen → n < length seen.plan.parts → IsAt seen n part whole →
    AreTold part whole.timetable
listed seen n part whole made inside at =
    let its = is_of seen n part whole made inside at in
    let s : Scenario = its.scenario in
    let range = its.in_range in
    let own : Part = part_of its.room its.striping its.items its.position s in
    let told : AreTold own (timetable_of s.executor) = of_executor own s.executor its.items.owners its.striping its.position range.executor refl in
    subst (λ (w : Whole). AreTold part w.timetable) (sym its.whole_is) (subst (λ (p : Part). AreTold p (timetable_of s.executor)) (sym its.part_is) told)

-- arrivals are items
arrivals_few : (e : Executor) → arrival_count (timetable_of e) ≤ whole_count e
arrivals_few (SharedIterations vus iterations max_duration) = omega arith
arrivals_few (PerVuIterations vus iterations max_duration) = omega arith
arrivals_few (ConstantVus vus duration) = omega arith
arrivals_few (ConstantArrivals rate unit duration pre max) = omega arith
arrivals_few (RampingArrivals start_rate unit stages pre max) = omega arith

pub within_items : (seen : PlanView) (n item count : ℕ) → IsMade seen → n < length seen.plan.parts → item < count →
    IsSomeAnd (slice_get seen.wholes n) (λ whole. count ≡ arrival_count whole.timetable) → IsSomeAnd (slice_get seen.plan.parts n) (λ part. item < part.whole_items)
within_items seen n item count made inside below counted_is =
    let one = some_at seen n made inside in
    let part : Part = one.0 in
    let whole : Whole = one.1.0 in
    let at = one.1.1 in
    let its = is_of seen n part whole made inside at in
    let s : Scenario = its.scenario in
    let count_is : count ≡ arrival_count whole.timetable = of_this (slice_get seen.wholes n) _ whole at.whole_at counted_is in
    let timetable_is : arrival_count whole.timetable ≡ arrival_count (timetable_of s.executor) = ap (λ (w : Whole). arrival_count w.timetable) its.whole_is in
    let items_are : part.whole_items ≡ whole_count s.executor = ap (λ (p : Part). p.whole_items) its.part_is in
    let few = arrivals_few s.executor in
    subst (λ (o : Option Part). IsSomeAnd o (λ part. item < part.whole_items)) (sym at.part_at) (omega arith)

-- all arrivals are told, where so many were looked at as there are
pub all_told : (seen : PlanView) (n item count : ℕ) (a b : List ℕ) → IsMade seen → n < length seen.plan.parts → item ≡ count →
    IsSomeAnd (slice_get seen.wholes n) (λ whole. count ≡ arrival_count whole.timetable) →
    ((part : Part) (whole : Whole) → IsAt seen n part whole → b ≡ a ++ concat (lines_below part whole.timetable item)) →
    IsSomeAnd (slice_get seen.plan.parts n) (λ part. b ≡ a ++ concat (arrival_lines part))
all_told seen n item count a b made inside past counted_is told =
    let one = some_at seen n made inside in
    let part : Part = one.0 in
    let whole : Whole = one.1.0 in
    let at = one.1.1 in
    let count_is : count ≡ arrival_count whole.timetable = of_this (slice_get seen.wholes n) _ whole at.whole_at counted_is in
    subst (λ (o : Option Part). IsSomeAnd o (λ part. b ≡ a ++ concat (arrival_lines part))) (sym at.part_at)
    (told part whole at
    ∙ ap (λ k. a ++ concat (lines_below part whole.timetable k)) (past ∙ count_is)
    ∙ ap (λ ls. a ++ concat ls) (listed seen n part whole made inside at))
