-- What is kept of a scenario with arrivals, and what the machine says of it.
use Rattle.std.proofs.Common.{◌≡◌, ◌≤◌, ℕ, Bool, true, false, cond, nat_le, List, [], ◌∷◌, Option, None, Some, map, filter, find, slice_get, IsTrue, append-nil, refl, sym, ap, ◌∙◌, subst, rules}
use Rattle.std.specs.Prelude.{option_map, is_some, option_to_list}
use Rattle.std.specs.Option.{option_map_or}
use Rattle.std.proofs.lemmas.Bool.{le-leb}
use Rattle.ld_machine.specs.Moment.{moment_after}
use Rattle.ld_machine.specs.Plan.{Arrival, Executor, SharedIterations, PerVuIterations, ConstantVus, RampingVus, ArrivalRate, ExternallyControlled, Part, owned_items, due_moment}
use Rattle.ld_machine.specs.State as machine
use Rattle.ld_machine.specs.Scenario.{Scenario, first_of, is_open_item, least_open_item, has_open_item, executor_arrivals, executor_max_vus, least_open_arrival, runs, where_holds, is_due, due_arrival}
use Rattle.ld_machine.specs.Settled.{is_distinct}
use Rattle.ld_machine.specs.Wait.{least_of, ramping_moments}
use Rattle.ld_machine.specs.Wishes.{has_arrivals}
use Rattle.ld_course.specs.Course.{IsOpening, own_moments}
use Rattle.ld_course.specs.declared.course.Course.{Course}
use Rattle.ld_course.proofs.IdleLemmas.{idle_of}
use Rattle.ld_course.proofs.FirstLemmas.{first_here}
use Rattle.ld_course.proofs.HeldLemmas.{opening_few, opening_order}
use Rattle.ld_rates.specs.RatesView.{RatesView}
use Rattle.ld_rates.specs.Shows.{Shows, kept_pair, kept_of, open_arrivals, pre_allocated_of, arrival_of}

-- an executor with arrivals, by its numbers
pub rates_executor : (e : Executor) → IsTrue (has_arrivals e) → e ≡ ArrivalRate (pre_allocated_of e) (executor_max_vus e) (executor_arrivals e)
rates_executor (SharedIterations _ _) h = absurd (search rules)
rates_executor (PerVuIterations _ _) h = absurd (search rules)
rates_executor (ConstantVus _) h = absurd (search rules)
rates_executor (RampingVus _ _) h = absurd (search rules)
rates_executor (ArrivalRate _ _ _) h = refl
rates_executor (ExternallyControlled _ _ _) h = absurd (search rules)

-- the first that a filter keeps is the one that is found
first_kept : {A : Type 0} (p : A → Bool) (xs : List A) → slice_get (filter p xs) 0 ≡ find p xs
first_kept p [] = refl
first_kept p (x ∷ xs) =
    let P : Bool → Type 0 = λ b. slice_get (cond b (x ∷ filter p xs) (filter p xs)) 0 ≡ cond b (Some x) (find p xs) in
    elim (p x) as P [ true ↦ refl | false ↦ first_kept p xs ]

first_mapped : {A B : Type 0} (f : A → B) (xs : List A) → slice_get (map f xs) 0 ≡ option_map f (slice_get xs 0)
first_mapped f [] = refl
first_mapped f (x ∷ xs) = refl

filter_mapped : {A B : Type 0} (p : B → Bool) (f : A → B) (xs : List A) → filter p (map f xs) ≡ map f (filter (λ x. p (f x)) xs)
filter_mapped p f [] = refl
filter_mapped p f (x ∷ xs) =
    let P : Bool → Type 0 = λ b. cond b (f x ∷ filter p (map f xs)) (filter p (map f xs)) ≡ map f (cond b (x ∷ filter (λ y. p (f y)) xs) (filter (λ y. p (f y)) xs)) in
    elim (p (f x)) as P [ true ↦ ap (λ more. f x ∷ more) (filter_mapped p f xs) | false ↦ filter_mapped p f xs ]

-- the next arrival that is kept is the least open one
next_kept : (s : Scenario) → slice_get (kept_of s).waiting 0 ≡ option_map kept_pair (least_open_arrival s)
next_kept s =
    first_mapped kept_pair (open_arrivals s)
    ∙ ap (option_map kept_pair) (first_kept (λ (a : Arrival). is_open_item s a.item) (executor_arrivals s.part.executor))

-- and its item is the least open item
item_of_rates : (s : Scenario) (e : Executor) → IsTrue (has_arrivals e) →
    first_of (filter (is_open_item s) (owned_items e)) ≡ option_map (λ (a : Arrival). a.item) (find (λ (a : Arrival). is_open_item s a.item) (executor_arrivals e))
item_of_rates s (SharedIterations _ _) h = absurd (search rules)
item_of_rates s (PerVuIterations _ _) h = absurd (search rules)
item_of_rates s (ConstantVus _) h = absurd (search rules)
item_of_rates s (RampingVus _ _) h = absurd (search rules)
item_of_rates s (ExternallyControlled _ _ _) h = absurd (search rules)
item_of_rates s (ArrivalRate pre most arrivals) h =
    first_here (filter (is_open_item s) (map (λ (a : Arrival). a.item) arrivals))
    ∙ ap (λ (xs : List ℕ). slice_get xs 0) (filter_mapped (is_open_item s) (λ (a : Arrival). a.item) arrivals)
    ∙ first_mapped (λ (a : Arrival). a.item) (filter (λ (a : Arrival). is_open_item s a.item) arrivals)
    ∙ ap (option_map (λ (a : Arrival). a.item)) (first_kept (λ (a : Arrival). is_open_item s a.item) arrivals)

item_of_least : (s : Scenario) → IsTrue (has_arrivals s.part.executor) → least_open_item s ≡ option_map (λ (a : Arrival). a.item) (least_open_arrival s)
item_of_least s h = item_of_rates s s.part.executor h

items_of_pairs : (o : Option Arrival) → option_map (λ (pair : ℕ × ℕ). pair.0) (option_map kept_pair o) ≡ option_map (λ (a : Arrival). a.item) o
items_of_pairs None = refl
items_of_pairs (Some a) = refl

-- the item of the next arrival that is kept is the least open item
pub next_item_kept : (s : Scenario) → IsTrue (has_arrivals s.part.executor) →
    option_map (λ (pair : ℕ × ℕ). pair.0) (slice_get (kept_of s).waiting 0) ≡ least_open_item s
next_item_kept s h =
    ap (option_map (λ (pair : ℕ × ℕ). pair.0)) (next_kept s) ∙ items_of_pairs (least_open_arrival s) ∙ sym (item_of_least s h)

-- a due arrival is the next one that is kept, once its moment has come
due_kept : (s : Scenario) (t : ℕ) (pair : ℕ × ℕ) → runs s ≡ true → slice_get (kept_of s).waiting 0 ≡ Some pair →
    option_map kept_pair (due_arrival s t) ≡ where_holds (nat_le (moment_after s.part.begin pair.1) t) (Some pair)
due_kept s t pair running next =
    let P : Option Arrival → Type 0 = λ o. option_map kept_pair o ≡ Some pair →
    option_map kept_pair (find (is_due s t) (option_map_or (λ a. a ∷ []) o [])) ≡ where_holds (nat_le (moment_after s.part.begin pair.1) t) (Some pair) in
    let from : P (least_open_arrival s) = elim (least_open_arrival s) as P [
      | None ↦ λ e. absurd (cc)
      | Some a ↦ λ e.
          let same : kept_pair a ≡ pair = cc in
          let Q : Bool → Type 0 = λ b. option_map kept_pair (cond b (Some a) None) ≡ where_holds b (Some (kept_pair a)) in
          let at : Q (is_due s t a) = elim (is_due s t a) as Q [ true ↦ refl | false ↦ refl ] in
          subst (λ (p : ℕ × ℕ). option_map kept_pair (cond (is_due s t a) (Some a) None) ≡ where_holds (nat_le (moment_after s.part.begin p.1) t) (Some p)) same at
    ] in
    rw running (from (sym (next_kept s) ∙ next))

due_none : (s : Scenario) (t : ℕ) → slice_get (kept_of s).waiting 0 ≡ None → option_map kept_pair (due_arrival s t) ≡ None
due_none s t next =
    let P : Option Arrival → Type 0 = λ o. option_map kept_pair o ≡ None →
    option_map kept_pair (find (is_due s t) (option_map_or (λ a. a ∷ []) (where_holds (runs s) o) [])) ≡ None in
    let from : P (least_open_arrival s) = elim (least_open_arrival s) as P [
      | None ↦ λ e.
          let Q : Bool → Type 0 = λ b. option_map kept_pair (find (is_due s t) (option_map_or (λ a. a ∷ []) (where_holds b None) [])) ≡ None in
          elim (runs s) as Q [ true ↦ refl | false ↦ refl ]
      | Some a ↦ λ e. absurd (cc)
    ] in from (sym (next_kept s) ∙ next)

due_not_running : (s : Scenario) (t : ℕ) → runs s ≡ false → option_map kept_pair (due_arrival s t) ≡ None
due_not_running s t h = rw h refl

-- ---- the arrival that is to be answered, by what a state keeps

next_of : (v : RatesView) (s : Scenario) (o : Option (ℕ × ℕ)) → Shows v s → slice_get v.waiting 0 ≡ o → slice_get (kept_of s).waiting 0 ≡ o
next_of v s o shows next = ap (λ (w : RatesView). slice_get w.waiting 0) (sym shows.kept) ∙ next

pub due_shown : (v : RatesView) (s : Scenario) (t : ℕ) (pair : ℕ × ℕ) → Shows v s → runs s ≡ true → slice_get v.waiting 0 ≡ Some pair →
    where_holds (nat_le (moment_after v.course.begin pair.1) t) (Some pair) ≡ option_map kept_pair (due_arrival s t)
due_shown v s t pair shows running next =
    let begins : v.course.begin ≡ s.part.begin = ap (λ (w : RatesView). w.course.begin) shows.kept in
    rw begins (sym (due_kept s t pair running (next_of v s (Some pair) shows next)))

pub none_due : (v : RatesView) (s : Scenario) (t : ℕ) → Shows v s → slice_get v.waiting 0 ≡ None → None ≡ option_map kept_pair (due_arrival s t)
none_due v s t shows next = sym (due_none s t (next_of v s None shows next))

-- ---- closing

has_mapped : {A B : Type 0} (f : A → B) (o : Option A) → is_some (option_map f o) ≡ is_some o
has_mapped f None = refl
has_mapped f (Some a) = refl

-- an item is open where an arrival is kept
pub open_shown : (v : RatesView) (s : Scenario) → Shows v s → has_open_item s ≡ is_some (slice_get v.waiting 0)
open_shown v s shows =
    ap is_some (sym (next_item_kept s shows.rates))
    ∙ has_mapped (λ (pair : ℕ × ℕ). pair.0) (slice_get (kept_of s).waiting 0)
    ∙ ap (λ (w : RatesView). is_some (slice_get w.waiting 0)) (sym shows.kept)

-- ---- candidates

-- when the next arrival is due
due_moment_shown : (v : RatesView) (s : Scenario) → Shows v s →
    option_map (due_moment s.part) (least_open_arrival s) ≡ option_map (λ (pair : ℕ × ℕ). moment_after v.course.begin pair.1) (slice_get v.waiting 0)
due_moment_shown v s shows =
    let begins : v.course.begin ≡ s.part.begin = ap (λ (w : RatesView). w.course.begin) shows.kept in
    let P : Option Arrival → Type 0 = λ o. option_map (due_moment s.part) o ≡ option_map (λ (pair : ℕ × ℕ). moment_after s.part.begin pair.1) (option_map kept_pair o) in
    let from : P (least_open_arrival s) = elim (least_open_arrival s) as P [ None ↦ refl | Some a ↦ refl ] in
    rw begins
    (from
    ∙ ap (option_map (λ (pair : ℕ × ℕ). moment_after s.part.begin pair.1)) (sym (next_kept s))
    ∙ ap (λ (w : RatesView). option_map (λ (pair : ℕ × ℕ). moment_after s.part.begin pair.1) (slice_get w.waiting 0)) (sym shows.kept))

pub least_again : (o : Option ℕ) → least_of (option_to_list o) ≡ o
least_again None = refl
least_again (Some m) = refl

-- how many users are held
pub count_shown : (v : RatesView) (s : Scenario) → Shows v s → machine.held_count s.share ≡ v.held
count_shown v s shows = ap (λ (w : RatesView). w.held) (sym shows.kept)

no_ramps : (e : Executor) (part : Part) → IsTrue (has_arrivals e) → ramping_moments e part ≡ []
no_ramps (SharedIterations _ _) part h = refl
no_ramps (PerVuIterations _ _) part h = refl
no_ramps (ConstantVus _) part h = refl
no_ramps (RampingVus _ _) part h = absurd (search rules)
no_ramps (ArrivalRate _ _ _) part h = refl
no_ramps (ExternallyControlled _ _ _) part h = refl

-- the moments that a scenario has of its own: when the next arrival is due
pub own_moments_shown : (v : RatesView) (s : Scenario) → Shows v s →
    own_moments s ≡ option_to_list (option_map (λ (pair : ℕ × ℕ). moment_after v.course.begin pair.1) (slice_get v.waiting 0))
own_moments_shown v s shows =
    rw (no_ramps s.part.executor s.part shows.rates) (append-nil _ ∙ ap option_to_list (due_moment_shown v s shows))

-- ---- the opening

all_open : (pairs : List (ℕ × ℕ)) → map kept_pair (filter (λ (a : Arrival). true) (map arrival_of pairs)) ≡ pairs
all_open [] = refl
all_open (pair ∷ rest) = ap (λ (more : List (ℕ × ℕ)). pair ∷ more) (all_open rest)

-- what is kept at the opening
abbrev opening_kept : Course → ℕ → ℕ → List (ℕ × ℕ) → RatesView
opening_kept course pre most pairs = record { course = course; pre = pre; max = most; waiting = pairs; idle = []; held = 0 }

pub opening_shown : (begin end grace pre most : ℕ) (course : Course) (pairs : List (ℕ × ℕ)) (s : Scenario) → IsOpening begin end grace course → pre ≤ most →
    s.share ≡ machine.opening_share → s.part.begin ≡ begin → s.part.end ≡ end → s.part.grace ≡ grace →
    s.part.executor ≡ ArrivalRate pre most (map arrival_of pairs) → IsTrue (is_distinct (owned_items s.part.executor)) →
    Shows (opening_kept course pre most pairs) s
opening_shown begin end grace pre most course pairs s opens within share b e g how distinct =
    let its_course = opens s b e g share in
    let takes : pre ≡ pre_allocated_of s.part.executor = rw how refl in
    let holds : most ≡ executor_max_vus s.part.executor = rw how refl in
    let waiting : pairs ≡ map kept_pair (open_arrivals s) = rw (share, how) (sym (all_open pairs)) in
    let idle : [] ≡ idle_of s.share = rw share refl in
    let held : 0 ≡ machine.held_count s.share = rw share refl in
    record {
      kept = λ i. record { course = its_course i; pre = takes i; max = holds i; waiting = waiting i; idle = idle i; held = held i };
      rates = rw how (search rules);
      distinct = distinct;
      fits = rw how (le-leb pre most within);
      order = opening_order s share;
      few = opening_few s share;
    }
