-- The plans of all positions of a sequence have the whole test together.
use Rattle.std.proofs.Common.{◌≡◌, ◌<◌, ◌∙◌, ℕ, zero, suc, List, [], ◌∷◌, ◌++◌, length, map, slice_get, filter, nat_eq, arith, ap, ap₂, refl, sym, subst}
use Rattle.std.specs.Prelude.{IsPermutation, Some, None, Option, sum, sum_by}
use Rattle.std.specs.List.{AllByRecursion, AllZip, flat_map, range_with_len}
use Rattle.std.specs.Option.{option_map_or}
use Rattle.std.proofs.lemmas.List.{map-append}
use Rattle.std.proofs.lemmas.List.Concat.{flat_map-cons}
use Rattle.std.proofs.lemmas.List.Sorted.{IsPermutation-map}
use Rattle.std.proofs.lemmas.List.Sums.{sum_by-cons}
use Rattle.std.proofs.lemmas.Option.{slice_get-map, same_Some}
use Rattle.ld_num.specs.declared.fraction.Frac.{Frac}
use Rattle.ld_segment.specs.Segments.{segments_of}
use Rattle.ld_segment.specs.declared.segment.Segment.{Segment}
use Rattle.ld_stripe.specs.Striping.{Striping, owner_at, share_at, shares_at}
use Rattle.ld_stripe.proofs.StripingLaws.{shares_sum}
use Rattle.ld_arrival.specs.Schedule.{owned_pairs}
use Rattle.ld_arrival.proofs.ScheduleLaws.{each_owned_once, owned_whole}
use Rattle.ld_machine.specs.Plan.{Part, owned_items, owned_slots}
use Rattle.ld_machine.specs.Scenario.{executor_arrivals}
use Rattle.ld_options.specs.Ranges.{IsScenarioInRange}
use Rattle.ld_options.specs.declared.options.Options.{Options}
use Rattle.ld_options.specs.declared.scenario.Scenario.{Scenario}
use Rattle.ld_plan.specs.Executor.{max_of, pre_of, slot_count, timetable_of, whole_count}
use Rattle.ld_plan.specs.IsPlanOf.{IsItemStriping, IsPartOf, IsPlanOf, IsSequenceStriping, IsSound, part_of, sample_room}
use Rattle.ld_plan.specs.PartView.{PartView}
use Rattle.ld_plan.specs.PlanView.{PlanView, arrival_of, schedule_of}
use Rattle.ld_machine.specs.Requirement.{most_owned_users, owned_users}
use Rattle.ld_plan.specs.Whole.{AreAllPlans, arrivals_at, items_at, most_users_at, slots_at, users_at}
use Rattle.ld_plan.proofs.ExecutorLemmas.{arrivals_owned, item_owner, item_owner_inside, items_owned, most_users_owned, slots_owned, some_users, users_owned}
use Rattle.ld_plan.proofs.StripingLemmas.{IsSpread, one_rescaled, one_sequence_striping, owner_inside, rescaled_spread, sequence_spread, sequence_striping, striping_of}

-- ---- one plan at one scenario

-- what stands beside an item of a list
beside : {X Y : Type 0} (R : X → Y → Type 0) (xs : List X) (ys : List Y) (n : ℕ) (x : X) → AllZip R xs ys → slice_get xs n ≡ Some x →
    (y : Y) × (slice_get ys n ≡ Some y) × R x y
beside R [] [] n x all is = absurd cc
beside R [] (y ∷ ys) n x all is = absurd all
beside R (z ∷ xs) [] n x all is = absurd all
beside R (z ∷ xs) (y ∷ ys) zero x all is = (y, refl, subst (λ v. R v y) (same_Some z x is) all.0)
beside R (z ∷ xs) (y ∷ ys) (suc n) x all is = beside R xs ys n x all.1 is

-- a scenario of the options is in its ranges
in_range_at : (scenarios : List Scenario) (n : ℕ) (s : Scenario) → AllByRecursion IsScenarioInRange scenarios → slice_get scenarios n ≡ Some s → IsScenarioInRange s
in_range_at [] n s all is = absurd cc
in_range_at (x ∷ rest) zero s all is = subst IsScenarioInRange (same_Some x s is) all.0
in_range_at (x ∷ rest) (suc n) s all is = in_range_at rest n s all.1 is

-- the plan of a position has this part of the scenario
abbrev HasPart : Options → Striping → Striping → ℕ → Scenario → PlanView → Type 0
HasPart options striping items n s seen =
    slice_get seen.plan.parts n ≡ Some (part_of (sample_room options.scripts.scripts s.script) striping items seen.position s)

has_part : (options : Options) (sequence : List Frac) (entries : ℕ) (striping items : Striping) (n : ℕ) (s : Scenario) (seen : PlanView) →
    IsSound options sequence → IsSequenceStriping sequence striping → IsItemStriping striping s items → slice_get options.scenarios n ≡ Some s →
    (segment : Segment) → IsPlanOf options segment sequence entries seen → HasPart options striping items n s seen
has_part options sequence entries striping items n s seen sound striped rescaled there segment is =
    let room = sample_room options.scripts.scripts s.script in
    let parts = is.are_parts in
    let same = one_sequence_striping sequence parts.striping striping sound.filled parts.striped striped in
    let found = beside (λ (x : Scenario). IsPartOf (sample_room options.scripts.scripts x.script) parts.striping seen.position x) options.scenarios is.views n s parts.owned there in
    let own = subst (λ (striped : Striping). IsPartOf room striped seen.position s found.0) same found.2 in
    let spread = sequence_spread sequence striping sound.filled striped in
    let range = in_range_at options.scenarios n s sound.in_range there in
    let one = one_rescaled striping own.items items (length (segments_of sequence)) (max_of s.executor) spread (some_users s.executor range.executor) own.rescaled rescaled in
    ap (λ (ps : List Part). slice_get ps n) is.parts
    ∙ slice_get-map (λ (v : PartView). v.part) is.views n
    ∙ ap (λ (o : Option PartView). elim o as (λ _. Option Part) [ Some v ↦ Some v.part | None ↦ None ]) found.1
    ∙ ap Some (own.part_is ∙ ap (λ (i : Striping). part_of room striping i seen.position s) one)

-- ---- all plans

-- what holds of each plan's part is so of all
abbrev HaveParts : Options → Striping → Striping → ℕ → Scenario → List PlanView → Type 0
HaveParts options striping items n s plans = AllByRecursion (HasPart options striping items n s) plans

have_parts : (options : Options) (sequence : List Frac) (striping items : Striping) (n : ℕ) (s : Scenario) (plans : List PlanView) →
    IsSound options sequence → IsSequenceStriping sequence striping → IsItemStriping striping s items → slice_get options.scenarios n ≡ Some s →
    AllByRecursion (λ seen. (segment : Segment) × (entries : ℕ) × IsPlanOf options segment sequence entries seen) plans →
    HaveParts options striping items n s plans
have_parts options sequence striping items n s [] sound striped rescaled there each = tt
have_parts options sequence striping items n s (seen ∷ plans) sound striped rescaled there each = (
  has_part options sequence each.0.1 striping items n s seen sound striped rescaled there each.0.0 each.0.2,
  have_parts options sequence striping items n s plans sound striped rescaled there each.1,
)

-- the arrivals of all
all_arrivals : (options : Options) (striping items : Striping) (n : ℕ) (s : Scenario) (plans : List PlanView) → HaveParts options striping items n s plans →
    flat_map (arrivals_at n) plans
    ≡ map arrival_of (flat_map (λ j. owned_pairs items.owners j (schedule_of (timetable_of s.executor))) (map (λ (seen : PlanView). seen.position) plans))
all_arrivals options striping items n s [] have = refl
all_arrivals options striping items n s (seen ∷ plans) have =
    let pairs = λ (j : ℕ). owned_pairs items.owners j (schedule_of (timetable_of s.executor)) in
    let places = map (λ (seen : PlanView). seen.position) plans in
    let rest = all_arrivals options striping items n s plans have.1 in
    let here : arrivals_at n seen ≡ map arrival_of (pairs seen.position) =
    ap (λ (o : Option Part). option_map_or (λ (part : Part). executor_arrivals part.executor) o []) have.0
    ∙ arrivals_owned s.executor items.owners striping seen.position in
    flat_map-cons (arrivals_at n) seen plans
    ∙ ap₂ (λ xs ys. xs ++ ys) here rest
    ∙ sym (map-append arrival_of (pairs seen.position) (flat_map pairs places))
    ∙ ap (map arrival_of) (sym (flat_map-cons pairs seen.position places))

-- the numbers of all, where each part has those that go to its position
abbrev numbers_at : (Part → List ℕ) → ℕ → PlanView → List ℕ
numbers_at numbers n seen = option_map_or numbers (slice_get seen.plan.parts n) []

all_numbers : (numbers : Part → List ℕ) (options : Options) (striping items : Striping) (n : ℕ) (s : Scenario) (owner : ℕ → ℕ) (v : ℕ) (plans : List PlanView) →
    ((room j : ℕ) → numbers (part_of room striping items j s) ≡ filter (λ x. nat_eq (owner x) j) (range_with_len 0 v)) →
    HaveParts options striping items n s plans →
    flat_map (numbers_at numbers n) plans
    ≡ flat_map (λ j. filter (λ x. nat_eq (owner x) j) (range_with_len 0 v)) (map (λ (seen : PlanView). seen.position) plans)
all_numbers numbers options striping items n s owner v [] those have = refl
all_numbers numbers options striping items n s owner v (seen ∷ plans) those have =
    let own = λ (j : ℕ). filter (λ x. nat_eq (owner x) j) (range_with_len 0 v) in
    let rest = all_numbers numbers options striping items n s owner v plans those have.1 in
    let here : numbers_at numbers n seen ≡ own seen.position =
    ap (λ (o : Option Part). option_map_or numbers o []) have.0
    ∙ those (sample_room options.scripts.scripts s.script) seen.position in
    flat_map-cons (numbers_at numbers n) seen plans
    ∙ ap₂ (λ xs ys. xs ++ ys) here rest
    ∙ sym (flat_map-cons own seen.position (map (λ (seen : PlanView). seen.position) plans))

-- the users of all
all_users : (options : Options) (striping items : Striping) (n : ℕ) (s : Scenario) (plans : List PlanView) → HaveParts options striping items n s plans →
    sum_by (users_at n) plans ≡ sum (map (λ j. share_at striping.owners j (pre_of s.executor)) (map (λ (seen : PlanView). seen.position) plans))
all_users options striping items n s [] have = refl
all_users options striping items n s (seen ∷ plans) have =
    let rest = all_users options striping items n s plans have.1 in
    let here : users_at n seen ≡ share_at striping.owners seen.position (pre_of s.executor) =
    ap (λ (o : Option Part). option_map_or (λ (part : Part). owned_users part.executor) o 0) have.0
    ∙ users_owned s.executor items.owners striping seen.position in
    let left = sum_by-cons (users_at n) seen plans in
    let right = sum_by-cons (λ x. x) (share_at striping.owners seen.position (pre_of s.executor))
    (map (λ j. share_at striping.owners j (pre_of s.executor)) (map (λ (seen : PlanView). seen.position) plans)) in
    omega arith

all_most_users : (options : Options) (striping items : Striping) (n : ℕ) (s : Scenario) (plans : List PlanView) → HaveParts options striping items n s plans →
    sum_by (most_users_at n) plans ≡ sum (map (λ j. share_at striping.owners j (max_of s.executor)) (map (λ (seen : PlanView). seen.position) plans))
all_most_users options striping items n s [] have = refl
all_most_users options striping items n s (seen ∷ plans) have =
    let rest = all_most_users options striping items n s plans have.1 in
    let here : most_users_at n seen ≡ share_at striping.owners seen.position (max_of s.executor) =
    ap (λ (o : Option Part). option_map_or (λ (part : Part). most_owned_users part.executor) o 0) have.0
    ∙ most_users_owned s.executor items.owners striping seen.position in
    let left = sum_by-cons (most_users_at n) seen plans in
    let right = sum_by-cons (λ x. x) (share_at striping.owners seen.position (max_of s.executor))
    (map (λ j. share_at striping.owners j (max_of s.executor)) (map (λ (seen : PlanView). seen.position) plans)) in
    omega arith

-- ---- the laws

-- how all positions of a sequence own one of its scenarios
record Owned (options : Options) (sequence : List Frac) (plans : List PlanView) (n : ℕ) (s : Scenario) : Type 0 where
  pub striping : Striping
  pub items : Striping
  pub spread : IsSpread striping (length (segments_of sequence))
  pub items_spread : IsSpread items (length (segments_of sequence))
  pub have : HaveParts options striping items n s plans

owned : (options : Options) (sequence : List Frac) (plans : List PlanView) → IsSound options sequence → AreAllPlans options sequence plans →
    (n : ℕ) (s : Scenario) → slice_get options.scenarios n ≡ Some s → Owned options sequence plans n s
owned options sequence plans sound all n s there =
    let striping = sequence_striping sequence sound.filled in
    let spread = sequence_spread sequence striping.0 sound.filled striping.1 in
    let items = striping_of (shares_at striping.0 (max_of s.executor)) in
    let range = in_range_at options.scenarios n s sound.in_range there in
    record {
      striping = striping.0;
      items = items.0;
      spread = spread;
      items_spread = rescaled_spread striping.0 items.0 (length (segments_of sequence)) (max_of s.executor) spread (some_users s.executor range.executor) items.1;
      have = have_parts options sequence striping.0 items.0 n s plans sound striping.1 items.1 there all.each;
    }

pub arrivals_owned_once : (options : Options) (sequence : List Frac) (plans : List PlanView) → IsSound options sequence →
    AreAllPlans options sequence plans → (n : ℕ) (s : Scenario) → slice_get options.scenarios n ≡ Some s →
    IsPermutation (map arrival_of (schedule_of (timetable_of s.executor))) (flat_map (arrivals_at n) plans)
arrivals_owned_once options sequence plans sound all n s there =
    let o = owned options sequence plans sound all n s there in
    let pairs = schedule_of (timetable_of s.executor) in
    let split = owned_whole o.items.owners (length (segments_of sequence)) (λ x. owner_inside o.items (length (segments_of sequence)) x o.items_spread) pairs in
    let placed = subst (λ places. IsPermutation pairs (flat_map (λ j. owned_pairs o.items.owners j pairs) places)) (sym all.positions) split in
    subst (IsPermutation (map arrival_of pairs)) (sym (all_arrivals options o.striping o.items n s plans o.have))
    (IsPermutation-map arrival_of _ _ placed)

-- numbers below v that each go to one of the positions are owned once
numbers_owned_once : (numbers : Part → List ℕ) (options : Options) (sequence : List Frac) (plans : List PlanView) (striping items : Striping) (n : ℕ) (s : Scenario)
    (owner : ℕ → ℕ) (v : ℕ) → AreAllPlans options sequence plans → HaveParts options striping items n s plans →
    ((x : ℕ) → owner x < length (segments_of sequence)) →
    ((room j : ℕ) → numbers (part_of room striping items j s) ≡ filter (λ x. nat_eq (owner x) j) (range_with_len 0 v)) →
    IsPermutation (range_with_len 0 v) (flat_map (numbers_at numbers n) plans)
numbers_owned_once numbers options sequence plans striping items n s owner v all have inside those =
    let row = range_with_len 0 v in
    let split = each_owned_once owner (length (segments_of sequence)) inside row in
    let placed = subst (λ places. IsPermutation row (flat_map (λ j. filter (λ x. nat_eq (owner x) j) row) places)) (sym all.positions) split in
    subst (IsPermutation row) (sym (all_numbers numbers options striping items n s owner v plans those have)) placed

pub items_owned_once : (options : Options) (sequence : List Frac) (plans : List PlanView) → IsSound options sequence →
    AreAllPlans options sequence plans → (n : ℕ) (s : Scenario) → slice_get options.scenarios n ≡ Some s →
    IsPermutation (range_with_len 0 (whole_count s.executor)) (flat_map (items_at n) plans)
items_owned_once options sequence plans sound all n s there =
    let o = owned options sequence plans sound all n s there in
    let range = in_range_at options.scenarios n s sound.in_range there in
    numbers_owned_once (λ (part : Part). owned_items part.executor) options sequence plans o.striping o.items n s
    (item_owner s.executor o.items.owners o.striping) (whole_count s.executor) all o.have
    (λ x. item_owner_inside s.executor o.items o.striping (length (segments_of sequence)) x o.items_spread o.spread)
    (λ room j. items_owned s.executor o.items.owners o.striping j range.executor)

pub slots_owned_once : (options : Options) (sequence : List Frac) (plans : List PlanView) → IsSound options sequence →
    AreAllPlans options sequence plans → (n : ℕ) (s : Scenario) → slice_get options.scenarios n ≡ Some s →
    IsPermutation (range_with_len 0 (slot_count s.executor)) (flat_map (slots_at n) plans)
slots_owned_once options sequence plans sound all n s there =
    let o = owned options sequence plans sound all n s there in
    numbers_owned_once (λ (part : Part). owned_slots part.executor) options sequence plans o.striping o.items n s
    (owner_at o.striping.owners) (slot_count s.executor) all o.have
    (λ x. owner_inside o.striping (length (segments_of sequence)) x o.spread)
    (λ room j. slots_owned s.executor o.items.owners o.striping j)

-- the shares of all positions sum to the whole
pub shares_whole : (options : Options) (sequence : List Frac) (plans : List PlanView) (striping : Striping) (v : ℕ) → AreAllPlans options sequence plans →
    IsSpread striping (length (segments_of sequence)) →
    sum (map (λ j. share_at striping.owners j v) (map (λ (seen : PlanView). seen.position) plans)) ≡ v
shares_whole options sequence plans striping v all spread =
    ap (λ places. sum (map (λ j. share_at striping.owners j v) places)) (all.positions ∙ ap (range_with_len 0) (sym spread.positions))
    ∙ shares_sum striping.weights striping.owners spread.striping spread.some v

pub users_owned_once : (options : Options) (sequence : List Frac) (plans : List PlanView) → IsSound options sequence →
    AreAllPlans options sequence plans → (n : ℕ) (s : Scenario) → slice_get options.scenarios n ≡ Some s → sum_by (users_at n) plans ≡ pre_of s.executor
users_owned_once options sequence plans sound all n s there =
    let o = owned options sequence plans sound all n s there in
    all_users options o.striping o.items n s plans o.have ∙ shares_whole options sequence plans o.striping (pre_of s.executor) all o.spread

pub most_users_owned_once : (options : Options) (sequence : List Frac) (plans : List PlanView) → IsSound options sequence →
    AreAllPlans options sequence plans → (n : ℕ) (s : Scenario) → slice_get options.scenarios n ≡ Some s → sum_by (most_users_at n) plans ≡ max_of s.executor
most_users_owned_once options sequence plans sound all n s there =
    let o = owned options sequence plans sound all n s there in
    all_most_users options o.striping o.items n s plans o.have ∙ shares_whole options sequence plans o.striping (max_of s.executor) all o.spread
