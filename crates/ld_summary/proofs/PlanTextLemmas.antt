-- The lines of a plan, scenario by scenario and item by item.
use Rattle.std.proofs.Common.{◌≡◌, ◌<◌, ◌+◌, ◌∙◌, ◌↔◌, ◌∷◌, ◌++◌, ◌==◌, [], ℕ, zero, suc, Bool, true, false, List, get_or, length, map, take, cond, arith, ap, ap₂, sym, refl, subst, append_assoc}
use Rattle.std.proofs.lemmas.List.{append-nil, length-map, map-append, map-id}
use Rattle.std.proofs.lemmas.List.Elements.{filter-append}
use Rattle.std.proofs.lemmas.List.FromFn.{map-range_with_len_more}
use Rattle.std.proofs.lemmas.Map.Views.{Contains-from_any, list_any-from_Contains}
use Rattle.std.proofs.lemmas.Bool.{eqb-true}
use Rattle.std.proofs.Math.Seq.{take-length}
use Rattle.std.proofs.lemmas.Option.{same_Some, slice_get_read}
use Rattle.std.proofs.lemmas.Slice.Zip.{AllZip-long, length-zip}
use Rattle.std.specs.Cmp.{both_ways, nat_eq_equiv}
use Rattle.std.specs.List.{concat, filter, flat_map, list_any, range_with_len, zip}
use Rattle.std.specs.Option.{IsSomeAnd, option_map_or}
use Rattle.std.specs.Prelude.{Contains, IsTrue, None, Option, Some, slice_get}
use Rattle.ld_arrival.specs.Timetable.{Timetable, moment_of}
use Rattle.ld_line.proofs.LineLemmas.{element_added, line_added}
use Rattle.ld_machine.specs.Moment.{moment_after}
use Rattle.ld_machine.specs.Plan.{Part, owned_items}
use Rattle.ld_options.specs.declared.options.Options.{Options}
use Rattle.ld_options.specs.declared.scenario.Scenario.{Scenario}
use Rattle.ld_plan.specs.PartView.{PartView}
use Rattle.ld_plan.specs.Plan.{IsMade}
use Rattle.ld_plan.specs.PlanView.{PlanView, Whole}
use Rattle.ld_plan.specs.Row.{row_of}
use Rattle.ld_plan.specs.declared.row.Row.{Row}
use Rattle.ld_summary.specs.PlanText.{all_scenario_lines, arrival_lines, moment_line, scenario_line, scenario_lines}

-- ---- the scenarios of the options, and the parts of the plan

-- there is one part for each scenario
pub as_many : (seen : PlanView) → IsMade seen → length seen.options.scenarios ≡ length seen.plan.parts
as_many seen made =
    let is = made.is_plan in
    let views = AllZip-long _ seen.options.scenarios is.views is.are_parts.owned in
    sym (ap (λ (ps : List Part). length ps) is.parts ∙ length-map is.views (λ (v : PartView). v.part) ∙ views)

-- a value that is there
pub there : {X : Type 0} (o : Option X) (P : X → Type 0) → IsSomeAnd o P → (x : X) × (o ≡ Some x) × P x
there None P is = absurd is
there (Some x) P is = (x, refl, is)

-- what holds of the value that is there
pub of_this : {X : Type 0} (o : Option X) (P : X → Type 0) (x : X) → o ≡ Some x → IsSomeAnd o P → P x
of_this {X = X} o P x at is = subst (λ (p : Option X). IsSomeAnd p P) at is

-- ---- arrivals

-- the instance owns an item
abbrev pub is_owned : Part → ℕ → Bool
is_owned part item = list_any (λ k. item == k) (owned_items part.executor)

-- when an arrival of this timetable is due, counted from the run's start
abbrev pub due_at : Part → Option Timetable → ℕ → ℕ
due_at part timetable item = moment_after part.begin (option_map_or (λ (t : Timetable). moment_of t item) timetable 0)

-- the list of one number more
one_number_more : (n : ℕ) → range_with_len 0 (n + 1) ≡ range_with_len 0 n ++ n ∷ []
one_number_more n =
    sym (map-id (range_with_len 0 (n + 1)))
    ∙ map-range_with_len_more (λ k. k) 0 n n (omega arith)
    ∙ ap (λ ns. ns ++ n ∷ []) (map-id (range_with_len 0 n))

-- the test of an item is the answer of the plan
pub owned_is : (part : Part) (item : ℕ) (owned : Bool) → IsTrue owned ↔ Contains (owned_items part.executor) item → owned ≡ is_owned part item
owned_is part item owned is =
    both_ways owned (is_owned part item)
    (λ holds. list_any-from_Contains nat_eq_equiv item (owned_items part.executor) (is.0 holds))
    (λ holds. is.1 (Contains-from_any (λ x y. eqb-true x y) item (owned_items part.executor) holds))

-- the line of an arrival of this timetable, and the lines of the owned ones below a number
abbrev pub line_at : Part → Option Timetable → ℕ → List ℕ
line_at part timetable item = moment_line item (due_at part timetable item)

abbrev pub lines_below : Part → Option Timetable → ℕ → List (List ℕ)
lines_below part timetable n = map (line_at part timetable) (filter (is_owned part) (range_with_len 0 n))

-- what the next item adds to the owned ones
lines_more : (part : Part) (timetable : Option Timetable) (n : ℕ) →
    lines_below part timetable (n + 1) ≡ lines_below part timetable n ++ map (line_at part timetable) (filter (is_owned part) (n ∷ []))
lines_more part timetable n =
    let below = range_with_len 0 n in
    ap (λ ns. map (line_at part timetable) (filter (is_owned part) ns)) (one_number_more n)
    ∙ ap (map (line_at part timetable)) (filter-append (is_owned part) below (n ∷ []))
    ∙ map-append (line_at part timetable) (filter (is_owned part) below) (filter (is_owned part) (n ∷ []))

-- an owned arrival adds its line
item_added : (part : Part) (timetable : Option Timetable) (n : ℕ) (a b c : List ℕ) → is_owned part n ≡ true →
    b ≡ a ++ concat (lines_below part timetable n) → c ≡ b ++ line_at part timetable n → c ≡ a ++ concat (lines_below part timetable (n + 1))
item_added part timetable n a b c owned so_far is =
    line_added a b c (lines_below part timetable n) (line_at part timetable n) so_far is
    ∙ ap (λ ls. a ++ concat ls)
    (sym (lines_more part timetable n ∙ ap (λ t. lines_below part timetable n ++ map (line_at part timetable) (cond t (n ∷ []) [])) owned))

-- another adds nothing
item_passed : (part : Part) (timetable : Option Timetable) (n : ℕ) (a b : List ℕ) → is_owned part n ≡ false →
    b ≡ a ++ concat (lines_below part timetable n) → b ≡ a ++ concat (lines_below part timetable (n + 1))
item_passed part timetable n a b other so_far =
    so_far
    ∙ ap (λ ls. a ++ concat ls)
    (sym
    (lines_more part timetable n
    ∙ ap (λ t. lines_below part timetable n ++ map (line_at part timetable) (cond t (n ∷ []) [])) other
    ∙ append-nil (lines_below part timetable n)))

-- ---- the arrivals of a plan's scenario

-- a part of the plan, and the scenario of the whole test beside it
pub record IsAt (seen : PlanView) (n : ℕ) (part : Part) (whole : Whole) : Type 0 where
  pub part_at : slice_get seen.plan.parts n ≡ Some part
  pub whole_at : slice_get seen.wholes n ≡ Some whole

-- the moment that the plan answers is when the arrival is due
pub moment_is : (seen : PlanView) (n : ℕ) (part : Part) (whole : Whole) (item moment : ℕ) → IsAt seen n part whole →
    IsSomeAnd (slice_get seen.plan.parts n) (λ part. IsSomeAnd (slice_get seen.wholes n) (λ whole.
    IsSomeAnd whole.timetable (λ timetable. moment ≡ moment_after part.begin (moment_of timetable item)))) →
    moment ≡ due_at part whole.timetable item
moment_is seen n part whole item moment at is =
    let here = of_this (slice_get seen.wholes n) _ whole at.whole_at (of_this (slice_get seen.plan.parts n) _ part at.part_at is) in
    let timed = there whole.timetable _ here in
    timed.2 ∙ ap (λ (o : Option Timetable). due_at part o item) (sym timed.1)

-- what was told of the part so far, and is told behind one arrival more
pub told_added : (seen : PlanView) (n : ℕ) (part : Part) (whole : Whole) (item : ℕ) (a b c : List ℕ) (owned : Bool) → IsAt seen n part whole → owned ≡ true →
    IsSomeAnd (slice_get seen.plan.parts n) (λ part. IsTrue owned ↔ Contains (owned_items part.executor) item) →
    b ≡ a ++ concat (lines_below part whole.timetable item) → c ≡ b ++ line_at part whole.timetable item →
    c ≡ a ++ concat (lines_below part whole.timetable (item + 1))
told_added seen n part whole item a b c owned at true_is is so_far line =
    item_added part whole.timetable item a b c (sym (owned_is part item owned (of_this (slice_get seen.plan.parts n) _ part at.part_at is)) ∙ true_is) so_far line

pub told_passed : (seen : PlanView) (n : ℕ) (part : Part) (whole : Whole) (item : ℕ) (a b : List ℕ) (owned : Bool) → IsAt seen n part whole → owned ≡ false →
    IsSomeAnd (slice_get seen.plan.parts n) (λ part. IsTrue owned ↔ Contains (owned_items part.executor) item) →
    b ≡ a ++ concat (lines_below part whole.timetable item) → b ≡ a ++ concat (lines_below part whole.timetable (item + 1))
told_passed seen n part whole item a b owned at false_is is so_far =
    item_passed part whole.timetable item a b (sym (owned_is part item owned (of_this (slice_get seen.plan.parts n) _ part at.part_at is)) ∙ false_is) so_far

-- ---- scenarios

-- the line of the part alone
pub row_told : (o : Option Part) (listed : Bool) (s : Scenario) (row : Row) (a b : List ℕ) → listed ≡ false → IsSomeAnd o (λ part. row ≡ row_of part) →
    b ≡ a ++ scenario_line s row → IsSomeAnd o (λ part. b ≡ a ++ concat (scenario_lines listed (s, part)))
row_told None listed s row a b unlisted row_is is = absurd row_is
row_told (Some part) listed s row a b unlisted row_is is =
    is
    ∙ ap (λ (r : Row). a ++ scenario_line s r) row_is
    ∙ ap (λ t. a ++ t) (sym (append-nil (scenario_line s (row_of part))))
    ∙ ap (λ t. a ++ concat (scenario_line s (row_of part) ∷ cond t (arrival_lines part) [])) (sym unlisted)

-- the line of the part, and those of its items behind it
pub row_and_items_told : (o : Option Part) (listed : Bool) (s : Scenario) (row : Row) (a b c : List ℕ) → listed ≡ true → IsSomeAnd o (λ part. row ≡ row_of part) →
    b ≡ a ++ scenario_line s row → IsSomeAnd o (λ part. c ≡ b ++ concat (arrival_lines part)) →
    IsSomeAnd o (λ part. c ≡ a ++ concat (scenario_lines listed (s, part)))
row_and_items_told None listed s row a b c unlisted row_is is more = absurd row_is
row_and_items_told (Some part) listed s row a b c all row_is is more =
    more
    ∙ ap (λ t. t ++ concat (arrival_lines part)) (is ∙ ap (λ (r : Row). a ++ scenario_line s r) row_is)
    ∙ append_assoc a (scenario_line s (row_of part)) (concat (arrival_lines part))
    ∙ ap (λ t. a ++ concat (scenario_line s (row_of part) ∷ cond t (arrival_lines part) [])) (sym all)

-- what stands at one place of two lists stands there as a pair
in_pairs : {X Y : Type 0} (xs : List X) (ys : List Y) (n : ℕ) (x : X) (y : Y) → slice_get xs n ≡ Some x → slice_get ys n ≡ Some y →
    slice_get (zip xs ys) n ≡ Some (x, y)
in_pairs [] ys n x y at_x at_y = absurd cc
in_pairs (v ∷ xs) [] n x y at_x at_y = absurd cc
in_pairs (v ∷ xs) (w ∷ ys) zero x y at_x at_y = ap₂ (λ p q. Some (p, q)) (same_Some v x at_x) (same_Some w y at_y)
in_pairs (v ∷ xs) (w ∷ ys) (suc n) x y at_x at_y = in_pairs xs ys n x y at_x at_y

-- one scenario more
pub one_scenario_more : (listed : Bool) (seen : PlanView) (n : ℕ) (s : Scenario) (a b c : List ℕ) → slice_get seen.options.scenarios n ≡ Some s →
    b ≡ a ++ concat (flat_map (scenario_lines listed) (take n (zip seen.options.scenarios seen.plan.parts))) →
    IsSomeAnd (slice_get seen.plan.parts n) (λ part. c ≡ b ++ concat (scenario_lines listed (s, part))) →
    c ≡ a ++ concat (flat_map (scenario_lines listed) (take (n + 1) (zip seen.options.scenarios seen.plan.parts)))
one_scenario_more listed seen n s a b c at so_far is =
    let found = there (slice_get seen.plan.parts n) (λ part. c ≡ b ++ concat (scenario_lines listed (s, part))) is in
    element_added (scenario_lines listed) a b c (zip seen.options.scenarios seen.plan.parts) n (s, found.0)
    (in_pairs seen.options.scenarios seen.plan.parts n s found.0 at found.1) so_far found.2

-- all scenarios are told
pub all_told : (listed : Bool) (seen : PlanView) (n : ℕ) (a b : List ℕ) → IsMade seen → n ≡ length seen.plan.parts →
    b ≡ a ++ concat (flat_map (scenario_lines listed) (take n (zip seen.options.scenarios seen.plan.parts))) →
    b ≡ a ++ concat (all_scenario_lines listed seen)
all_told listed seen n a b made count so_far =
    let pairs = zip seen.options.scenarios seen.plan.parts in
    let long = length-zip seen.options.scenarios seen.plan.parts in
    let many = as_many seen made in
    let all : n ≡ length pairs = omega arith in
    so_far
    ∙ ap (λ (ps : List (Scenario × Part)). a ++ concat (flat_map (scenario_lines listed) ps))
    (ap (λ k. take k pairs) all ∙ take-length pairs)

-- the scenarios that the plan lends are those of its options, and each part has one
abbrev pub AreLent : PlanView → Options → List Scenario → Type 0
AreLent seen options lent = (options ≡ seen.options) × (lent ≡ options.scenarios)

pub lent_inside : (seen : PlanView) (options : Options) (lent : List Scenario) (n : ℕ) → IsMade seen → AreLent seen options lent →
    n < length seen.plan.parts → n < length lent
lent_inside seen options lent n made is below =
    let many = as_many seen made in
    let long = ap (λ (ss : List Scenario). length ss) (is.1 ∙ ap (λ (o : Options). o.scenarios) is.0) in
    omega arith

pub lent_at : (seen : PlanView) (options : Options) (lent : List Scenario) (n : ℕ) (s : Scenario) → IsMade seen → AreLent seen options lent →
    n < length seen.plan.parts → s ≡ get_or lent n s → slice_get seen.options.scenarios n ≡ Some s
lent_at seen options lent n s made is below read =
    ap (λ (ss : List Scenario). slice_get ss n) (sym (is.1 ∙ ap (λ (o : Options). o.scenarios) is.0))
    ∙ slice_get_read lent (length lent) n s refl (lent_inside seen options lent n made is below) read
