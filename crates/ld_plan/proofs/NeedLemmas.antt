-- What all positions of a sequence need of users at a moment sums to what the whole test needs at it.
use Rattle.std.proofs.Common.{◌≡◌, ◌<◌, ◌≤◌, ◌+◌, ◌-◌, ◌∙◌, ℕ, Bool, true, false, List, [], ◌∷◌, cond, length, map, arith, ap, refl, sym, subst}
use Rattle.std.specs.Prelude.{sum_by}
use Rattle.std.specs.List.{AllByRecursion, AllZip}
use Rattle.std.proofs.lemmas.List.Sums.{sum-map, sum_by-cons}
use Rattle.ld_num.specs.declared.fraction.Frac.{Frac}
use Rattle.ld_segment.specs.Points.{IsFilled}
use Rattle.ld_segment.specs.Segments.{one_point, segments_of, zero_point}
use Rattle.ld_segment.specs.declared.segment.Segment.{Segment}
use Rattle.ld_stripe.specs.Striping.{Striping, share_at}
use Rattle.ld_machine.specs.Plan.{Part}
use Rattle.ld_machine.specs.Requirement.{executor_extra, executor_need, extra, need}
use Rattle.ld_options.specs.Ranges.{IsScenarioInRange}
use Rattle.ld_options.specs.declared.options.Options.{Options}
use Rattle.ld_options.specs.declared.scenario.Scenario.{Scenario}
use Rattle.ld_plan.specs.Executor.{max_of, pre_of}
use Rattle.ld_plan.specs.IsPlanOf.{AreOwned, IsPartOf, IsPlanOf, IsSequenceStriping, IsSound, part_of, sample_room, whole_striping}
use Rattle.ld_plan.specs.Need.{is_on}
use Rattle.ld_plan.specs.PartView.{PartView, parts_of}
use Rattle.ld_plan.specs.PlanView.{PlanView}
use Rattle.ld_plan.specs.Whole.{AreAllPlans}
use Rattle.ld_plan.proofs.AllPlansLemmas.{shares_whole}
use Rattle.ld_plan.proofs.ExecutorLemmas.{pre_within, users_added, users_needed}
use Rattle.ld_plan.proofs.PartLemmas.{place_inside}
use Rattle.ld_plan.proofs.StripingLemmas.{IsSpread, one_sequence_striping, sequence_spread, sequence_striping, share_rises}
use Rattle.ld_plan.proofs.WholeLemmas.{sequence_of_one, share_of_whole}

-- ---- sums

-- a sum of zeros
zeros : {X : Type 0} (xs : List X) → sum_by (λ (x : X). 0) xs ≡ 0
zeros [] = refl
zeros {X} (x ∷ xs) = let rest = zeros xs in let split = sum_by-cons (λ (x : X). 0) x xs in omega arith

-- a sum of what are sums of two
sum_of_sums : {X : Type 0} (f g : X → ℕ) (xs : List X) → sum_by (λ x. f x + g x) xs ≡ sum_by f xs + sum_by g xs
sum_of_sums f g [] = refl
sum_of_sums f g (x ∷ xs) =
    let rest = sum_of_sums f g xs in
    let both = sum_by-cons (λ x. f x + g x) x xs in
    let left = sum_by-cons f x xs in
    let right = sum_by-cons g x xs in
    omega arith

-- sums of what is as much for each
pub same_sums : {X : Type 0} (f g : X → ℕ) → ((x : X) → f x ≡ g x) → (xs : List X) → sum_by f xs ≡ sum_by g xs
same_sums f g same [] = refl
same_sums f g same (x ∷ xs) =
    let rest = same_sums f g same xs in
    let here = same x in
    let left = sum_by-cons f x xs in
    let right = sum_by-cons g x xs in
    omega arith

-- sums of sums, in either order
swapped : {X : Type 0} (f : ℕ → X → ℕ) (js : List ℕ) (xs : List X) → sum_by (λ j. sum_by (f j) xs) js ≡ sum_by (λ (x : X). sum_by (λ j. f j x) js) xs
swapped f [] xs = sym (zeros xs)
swapped {X} f (j ∷ js) xs =
    let rest = swapped f js xs in
    let first = sum_by-cons (λ j. sum_by (f j) xs) j js in
    let each =
    same_sums (λ (x : X). sum_by (λ j. f j x) (j ∷ js)) (λ (x : X). f j x + sum_by (λ j. f j x) js)
    (λ (x : X). sum_by-cons (λ j. f j x) j js) xs in
    let split = sum_of_sums (f j) (λ (x : X). sum_by (λ j. f j x) js) xs in
    omega arith

-- a sum of what is left of each
rest_sums : (f g : ℕ → ℕ) → ((j : ℕ) → g j ≤ f j) → (js : List ℕ) → sum_by (λ j. f j - g j) js + sum_by g js ≡ sum_by f js
rest_sums f g within [] = refl
rest_sums f g within (j ∷ js) =
    let rest = rest_sums f g within js in
    let here = within j in
    let left = sum_by-cons (λ j. f j - g j) j js in
    let right = sum_by-cons g j js in
    let both = sum_by-cons f j js in
    omega arith

-- a sum of what is there for all or for none
on_sums : (b : Bool) (f : ℕ → ℕ) (js : List ℕ) → sum_by (λ j. cond b (f j) 0) js ≡ cond b (sum_by f js) 0
on_sums true f js = refl
on_sums false f js = zeros js

-- ---- a number of each part

-- a number that each part has by its position and its scenario
abbrev IsByPlace : (Part → ℕ) → Striping → (ℕ → Scenario → ℕ) → Type 0
IsByPlace number striping amount =
    (room : ℕ) (items : Striping) (j : ℕ) (s : Scenario) → number (part_of room striping items j s) ≡ amount j s

-- the numbers of all parts of a position
pub of_parts : (number : Part → ℕ) (options : Options) (striping : Striping) (amount : ℕ → Scenario → ℕ) → IsByPlace number striping amount →
    (j : ℕ) (scenarios : List Scenario) (views : List PartView) →
    AllZip (λ (s : Scenario). IsPartOf (sample_room options.scripts.scripts s.script) striping j s) scenarios views →
    sum_by number (parts_of views) ≡ sum_by (amount j) scenarios
of_parts number options striping amount is j [] [] all = refl
of_parts number options striping amount is j [] (v ∷ views) all = absurd all
of_parts number options striping amount is j (s ∷ scenarios) [] all = absurd all
of_parts number options striping amount is j (s ∷ scenarios) (v ∷ views) all =
    let rest = of_parts number options striping amount is j scenarios views all.1 in
    let part = all.0 in
    let here = ap number part.part_is ∙ is (sample_room options.scripts.scripts s.script) part.items j s in
    let left = sum_by-cons number v.part (parts_of views) in
    let right = sum_by-cons (amount j) s scenarios in
    omega arith

-- those of a plan
of_plan : (number : Part → ℕ) (options : Options) (sequence : List Frac) (striping : Striping) (amount : ℕ → Scenario → ℕ) →
    IsByPlace number striping amount → IsFilled sequence → IsSequenceStriping sequence striping →
    (segment : Segment) (entries : ℕ) (seen : PlanView) → IsPlanOf options segment sequence entries seen →
    sum_by number seen.plan.parts ≡ sum_by (amount seen.position) options.scenarios
of_plan number options sequence striping amount by filled striped segment entries seen is =
    let parts = is.are_parts in
    let same = one_sequence_striping sequence parts.striping striping filled parts.striped striped in
    let own = subst (λ (striped : Striping). AreOwned options striped seen.position is.views) same parts.owned in
    ap (sum_by number) is.parts ∙ of_parts number options striping amount by seen.position options.scenarios is.views own

-- those of all plans of a sequence
of_plans : (number : Part → ℕ) (options : Options) (sequence : List Frac) (striping : Striping) (amount : ℕ → Scenario → ℕ) →
    IsByPlace number striping amount → IsFilled sequence → IsSequenceStriping sequence striping → (plans : List PlanView) →
    AllByRecursion (λ seen. (segment : Segment) × (entries : ℕ) × IsPlanOf options segment sequence entries seen) plans →
    sum_by (λ (seen : PlanView). sum_by number seen.plan.parts) plans
    ≡ sum_by (λ j. sum_by (amount j) options.scenarios) (map (λ (seen : PlanView). seen.position) plans)
of_plans number options sequence striping amount by filled striped [] each = refl
of_plans number options sequence striping amount by filled striped (seen ∷ plans) each =
    let rest = of_plans number options sequence striping amount by filled striped plans each.1 in
    let here = of_plan number options sequence striping amount by filled striped each.0.0 each.0.1 seen each.0.2 in
    let left = sum_by-cons (λ (seen : PlanView). sum_by number seen.plan.parts) seen plans in
    let right = sum_by-cons (λ j. sum_by (amount j) options.scenarios) seen.position (map (λ (seen : PlanView). seen.position) plans) in
    omega arith

-- each scenario's numbers at all positions sum to one number, and so do all
of_scenarios : (amount : ℕ → Scenario → ℕ) (total : Scenario → ℕ) (js : List ℕ) →
    ((s : Scenario) → IsScenarioInRange s → sum_by (λ j. amount j s) js ≡ total s) →
    (scenarios : List Scenario) → AllByRecursion IsScenarioInRange scenarios →
    sum_by (λ (s : Scenario). sum_by (λ j. amount j s) js) scenarios ≡ sum_by total scenarios
of_scenarios amount total js each [] ranges = refl
of_scenarios amount total js each (s ∷ scenarios) ranges =
    let rest = of_scenarios amount total js each scenarios ranges.1 in
    let here = each s ranges.0 in
    let left = sum_by-cons (λ (s : Scenario). sum_by (λ j. amount j s) js) s scenarios in
    let right = sum_by-cons total s scenarios in
    omega arith

-- ---- the whole test

-- the points 0 and 1 cut it
one_filled : IsFilled (zero_point ∷ one_point ∷ [])
one_filled = record { rises = (omega arith, tt); begins = refl; ends = refl }

-- its one position is the first
whole_first : (options : Options) (segment : Segment) (entries : ℕ) (whole : PlanView) →
    IsPlanOf options segment (zero_point ∷ one_point ∷ []) entries whole → whole.position ≡ 0
whole_first options segment entries whole is =
    let inside : whole.position < 1 = place_inside segment (zero_point ∷ one_point ∷ []) whole.position is.are_parts.stands in
    omega arith

-- such a number of all plans is that of the whole test, where the amounts of all positions sum to that of the one position
owned_once : (number : Part → ℕ) (amount : Striping → ℕ → Scenario → ℕ) (total : Scenario → ℕ) →
    ((striping : Striping) → IsByPlace number striping (amount striping)) →
    ((s : Scenario) → amount whole_striping 0 s ≡ total s) →
    (options : Options) (sequence : List Frac) (plans : List PlanView) (segment : Segment) (entries : ℕ) (whole : PlanView) →
    IsSound options sequence → AreAllPlans options sequence plans → IsPlanOf options segment (zero_point ∷ one_point ∷ []) entries whole →
    ((striping : Striping) → IsSpread striping (length (segments_of sequence)) → (s : Scenario) → IsScenarioInRange s →
    sum_by (λ j. amount striping j s) (map (λ (seen : PlanView). seen.position) plans) ≡ total s) →
    sum_by (λ (seen : PlanView). sum_by number seen.plan.parts) plans ≡ sum_by number whole.plan.parts
owned_once number amount total by alone options sequence plans segment entries whole sound all is each =
    let found = sequence_striping sequence sound.filled in
    let striping = found.0 in
    let places = map (λ (seen : PlanView). seen.position) plans in
    let spread = sequence_spread sequence striping sound.filled found.1 in
    let first = whole_first options segment entries whole is in
    of_plans number options sequence striping (amount striping) (by striping) sound.filled found.1 plans all.each
    ∙ swapped (amount striping) places options.scenarios
    ∙ of_scenarios (amount striping) total places (each striping spread) options.scenarios sound.in_range
    ∙ sym (same_sums (amount whole_striping 0) total alone options.scenarios)
    ∙ ap (λ j. sum_by (amount whole_striping j) options.scenarios) (sym first)
    ∙ sym (of_plan number options (zero_point ∷ one_point ∷ []) whole_striping (amount whole_striping) (by whole_striping) one_filled sequence_of_one
    segment entries whole is)

-- ---- users at a moment

-- the users that a position plans then, and those that it may add
abbrev planned_at : ℕ → Striping → ℕ → Scenario → ℕ
planned_at t striping j s = cond (is_on t s) (share_at striping.owners j (pre_of s.executor)) 0

abbrev added_at : ℕ → Striping → ℕ → Scenario → ℕ
added_at t striping j s =
    cond (is_on t s) (share_at striping.owners j (max_of s.executor) - share_at striping.owners j (pre_of s.executor)) 0

-- the shares of all positions sum to the whole
all_shares : (options : Options) (sequence : List Frac) (plans : List PlanView) (striping : Striping) (v : ℕ) → AreAllPlans options sequence plans →
    IsSpread striping (length (segments_of sequence)) →
    sum_by (λ j. share_at striping.owners j v) (map (λ (seen : PlanView). seen.position) plans) ≡ v
all_shares options sequence plans striping v all spread =
    sym (sum-map (λ j. share_at striping.owners j v) (map (λ (seen : PlanView). seen.position) plans))
    ∙ shares_whole options sequence plans striping v all spread

-- and so does what is left of them
all_rests : (options : Options) (sequence : List Frac) (plans : List PlanView) (striping : Striping) (pre max : ℕ) → pre ≤ max →
    AreAllPlans options sequence plans → IsSpread striping (length (segments_of sequence)) →
    sum_by (λ j. share_at striping.owners j max - share_at striping.owners j pre) (map (λ (seen : PlanView). seen.position) plans) ≡ max - pre
all_rests options sequence plans striping pre max within all spread =
    let of_max = all_shares options sequence plans striping max all spread in
    let of_pre = all_shares options sequence plans striping pre all spread in
    let left =
    rest_sums (λ j. share_at striping.owners j max) (λ j. share_at striping.owners j pre)
    (λ j. share_rises striping.owners j pre max within) (map (λ (seen : PlanView). seen.position) plans) in
    omega arith

-- ---- the laws

pub need_owned_once : (options : Options) (sequence : List Frac) (plans : List PlanView) (segment : Segment) (entries : ℕ) (whole : PlanView) →
    IsSound options sequence → AreAllPlans options sequence plans → IsPlanOf options segment (zero_point ∷ one_point ∷ []) entries whole →
    (t : ℕ) → sum_by (λ (seen : PlanView). need seen.plan.parts t) plans ≡ need whole.plan.parts t
need_owned_once options sequence plans segment entries whole sound all is t =
    owned_once (λ (part : Part). executor_need part.executor part t) (planned_at t)
    (λ (s : Scenario). cond (is_on t s) (pre_of s.executor) 0)
    (λ striping room items j s. users_needed s.executor items.owners striping j (part_of room striping items j s) t)
    (λ s. ap (λ n. cond (is_on t s) n 0) (share_of_whole (pre_of s.executor)))
    options sequence plans segment entries whole sound all is
    (λ striping spread s range.
    on_sums (is_on t s) (λ j. share_at striping.owners j (pre_of s.executor)) (map (λ (seen : PlanView). seen.position) plans)
    ∙ ap (λ n. cond (is_on t s) n 0) (all_shares options sequence plans striping (pre_of s.executor) all spread))

pub extra_owned_once : (options : Options) (sequence : List Frac) (plans : List PlanView) (segment : Segment) (entries : ℕ) (whole : PlanView) →
    IsSound options sequence → AreAllPlans options sequence plans → IsPlanOf options segment (zero_point ∷ one_point ∷ []) entries whole →
    (t : ℕ) → sum_by (λ (seen : PlanView). extra seen.plan.parts t) plans ≡ extra whole.plan.parts t
extra_owned_once options sequence plans segment entries whole sound all is t =
    owned_once (λ (part : Part). executor_extra part.executor part t) (added_at t)
    (λ (s : Scenario). cond (is_on t s) (max_of s.executor - pre_of s.executor) 0)
    (λ striping room items j s. users_added s.executor items.owners striping j (part_of room striping items j s) t)
    (λ s. ap (λ n. cond (is_on t s) n 0)
    (let most = share_of_whole (max_of s.executor) in let planned = share_of_whole (pre_of s.executor) in omega arith))
    options sequence plans segment entries whole sound all is
    (λ striping spread s range.
    on_sums (is_on t s) (λ j. share_at striping.owners j (max_of s.executor) - share_at striping.owners j (pre_of s.executor))
    (map (λ (seen : PlanView). seen.position) plans)
    ∙ ap (λ n. cond (is_on t s) n 0)
    (all_rests options sequence plans striping (pre_of s.executor) (max_of s.executor) (pre_within s.executor range.executor) all spread))
