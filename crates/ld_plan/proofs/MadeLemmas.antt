-- What every plan that is made keeps to: it has a part of each scenario, is valid, needs few users, and has no controls.
use Rattle.std.proofs.Common.{◌≡◌, ◌<◌, ◌≤◌, ◌∙◌, List, [], ◌∷◌, ℕ, false, length, slice_get, ap, arith, refl, sym, subst}
use Rattle.std.specs.Prelude.{All, IsTrue, Some}
use Rattle.std.specs.List.{AllByRecursion, AllZip}
use Rattle.std.proofs.lemmas.List.{length-map}
use Rattle.std.proofs.lemmas.List.Elements.{All-contains, All-cons, All-get_or, All-head, All-nil, All-tail}
use Rattle.std.proofs.lemmas.Option.{get_or_from_slice_get, slice_get_within}
use Rattle.ld_stripe.specs.Striping.{Striping}
use Rattle.ld_machine.specs.Plan.{Part, is_external, owned_items}
use Rattle.ld_machine.specs.Requirement.{IsRequirement}
use Rattle.ld_machine.specs.Settled.{is_distinct}
use Rattle.ld_machine.specs.State.{Controls, executor_controls, opening_controls}
use Rattle.ld_machine.specs.Told.{users_fit}
use Rattle.ld_machine.specs.ValidPlan.{IsValidPart, IsValidPlan}
use Rattle.ld_machine.specs.WellTimed.{WellTimed}
use Rattle.ld_machine.proofs.ValidPlanLemmas.{rising_distinct}
use Rattle.ld_options.proofs.SizeLemmas.{few_scenarios, some_scenarios}
use Rattle.ld_options.specs.Ranges.{IsScenarioInRange, most_scenarios, most_users}
use Rattle.ld_options.specs.declared.options.Options.{Options}
use Rattle.ld_options.specs.declared.scenario.Scenario.{Scenario}
use Rattle.ld_options.proofs.ScenarioLemmas.{zip_length}
use Rattle.ld_plan.specs.IsPlanOf.{IsPartOf, part_of, sample_room}
use Rattle.ld_plan.specs.PartView.{PartView, parts_of}
use Rattle.ld_plan.specs.Plan.{IsMade}
use Rattle.ld_plan.specs.PlanView.{PlanView}
use Rattle.ld_plan.proofs.ExecutorLemmas.{no_controls, not_external, users_within}
use Rattle.ld_plan.proofs.UsersLemmas.{limit_of, limit_of_whole, limit_within}
use Rattle.ld_plan.proofs.ValidLemmas.{part_valid}

-- ---- how many parts there are

-- as many as there are scenarios
pub parts_length : (seen : PlanView) → IsMade seen → length seen.plan.parts ≡ length seen.options.scenarios
parts_length seen made =
    let is = made.is_plan in
    ap length is.parts
    ∙ length-map is.views (λ (v : PartView). v.part)
    ∙ zip_length _ _ _ is.are_parts.owned

pub parts_some : (seen : PlanView) → IsMade seen → 0 < length seen.plan.parts
parts_some seen made = let long = parts_length seen made in let some = some_scenarios seen.options in omega arith

pub parts_few : (seen : PlanView) → IsMade seen → length seen.plan.parts ≤ most_scenarios
parts_few seen made = let long = parts_length seen made in let few = few_scenarios seen.options in omega arith

-- ---- what holds of each part

-- it holds of all that a position owns of a scenario in its ranges
abbrev pub HoldsOfOwned : (Part → Type 0) → Type 0
HoldsOfOwned P = (room : ℕ) (striping items : Striping) (j : ℕ) (s : Scenario) → IsScenarioInRange s → P (part_of room striping items j s)

all_parts : (P : Part → Type 0) → HoldsOfOwned P → (options : Options) (striping : Striping) (j : ℕ) (scenarios : List Scenario) (views : List PartView) →
    AllByRecursion IsScenarioInRange scenarios →
    AllZip (λ (s : Scenario). IsPartOf (sample_room options.scripts.scripts s.script) striping j s) scenarios views → All P (parts_of views)
all_parts P holds options striping j [] [] ranges all = All-nil P
all_parts P holds options striping j [] (v ∷ views) ranges all = absurd all
all_parts P holds options striping j (s ∷ scenarios) [] ranges all = absurd all
all_parts P holds options striping j (s ∷ scenarios) (v ∷ views) ranges all =
    let room = sample_room options.scripts.scripts s.script in
    let is = all.0 in
    All-cons P v.part (parts_of views) (subst P (sym is.part_is) (holds room striping is.items j s ranges.0))
    (all_parts P holds options striping j scenarios views ranges.1 all.1)

pub each_part : (P : Part → Type 0) → HoldsOfOwned P → (seen : PlanView) → IsMade seen → All P seen.plan.parts
each_part P holds seen made =
    let is = made.is_plan in
    subst (All P) (sym is.parts)
    (all_parts P holds seen.options is.are_parts.striping seen.position seen.options.scenarios is.views made.sound.in_range is.are_parts.owned)

-- so it holds of the part at a place
part_at : (P : Part → Type 0) (parts : List Part) (n : ℕ) (part : Part) → All P parts → slice_get parts n ≡ Some part → P part
part_at P parts n part all at =
    subst P (get_or_from_slice_get parts n part part at) (All-get_or P parts n part (slice_get_within parts n part at) all)

-- ---- it is valid

pub plan_valid : (seen : PlanView) → IsMade seen → IsValidPlan seen.plan
plan_valid seen made =
    let all = each_part IsValidPart part_valid seen made in
    record {
      parts = λ part has. All-contains IsValidPart seen.plan.parts part all has;
      users = made.is_plan.users;
    }

pub plan_timed : (seen : PlanView) → IsMade seen → WellTimed seen.plan
plan_timed seen made part has = ((plan_valid seen made).parts part has).timed

-- ---- it needs few users

-- no more than the whole test
pub plan_few : (seen : PlanView) → IsMade seen → seen.plan.limit ≤ most_users
plan_few seen made =
    let is = made.is_plan in
    let whole = made.accepted.users in
    let ranges = made.sound.in_range in
    let striping = is.are_parts.striping in
    let users = subst (λ (ps : List Part). IsRequirement ps seen.plan.planned seen.plan.limit) is.parts is.users in
    let own = limit_of seen.options striping seen.position is.views seen.plan.planned seen.plan.limit ranges is.are_parts.owned users in
    let within =
    limit_within striping.owners seen.position seen.options.scenarios seen.plan.limit whole.limit own
    (limit_of_whole seen.options whole.limit ranges whole.is_limit) in
    let few = whole.few in
    omega arith

-- ---- what is owned of a scenario

-- it takes no more users at its begin than it may hold
pub part_fits : (seen : PlanView) → IsMade seen → (n : ℕ) (part : Part) → slice_get seen.plan.parts n ≡ Some part → IsTrue (users_fit part.executor)
part_fits seen made n part at =
    let P : Part → Type 0 = λ (p : Part). IsTrue (users_fit p.executor) in
    part_at P seen.plan.parts n part
    (each_part P (λ room striping items j s range. users_within s.executor items.owners striping j range.executor) seen made) at

-- its items are distinct
pub part_distinct : (seen : PlanView) → IsMade seen → (n : ℕ) (part : Part) → slice_get seen.plan.parts n ≡ Some part →
    IsTrue (is_distinct (owned_items part.executor))
part_distinct seen made n part at =
    rising_distinct (owned_items part.executor) (part_at IsValidPart seen.plan.parts n part (each_part IsValidPart part_valid seen made) at).items

-- ---- nothing is controlled from outside

pub none_external : (seen : PlanView) → IsMade seen → (n : ℕ) (part : Part) → slice_get seen.plan.parts n ≡ Some part → is_external part.executor ≡ false
none_external seen made n part at =
    let P : Part → Type 0 = λ (p : Part). is_external p.executor ≡ false in
    part_at P seen.plan.parts n part
    (each_part P (λ room striping items j s range. not_external s.executor items.owners striping j) seen made) at

-- so no controls are set at the opening
abbrev SetsNoControls : Part → Type 0
SetsNoControls part = (others : Controls) → executor_controls part.executor others ≡ others

unset : (parts : List Part) → All SetsNoControls parts → opening_controls parts ≡ record { paused = false; vus = 0; vus_max = 0 }
unset [] all = refl
unset (part ∷ parts) all =
    All-head SetsNoControls part parts all (opening_controls parts) ∙ unset parts (All-tail SetsNoControls part parts all)

pub none_controlled : (seen : PlanView) → IsMade seen → opening_controls seen.plan.parts ≡ record { paused = false; vus = 0; vus_max = 0 }
none_controlled seen made =
    unset seen.plan.parts
    (each_part SetsNoControls (λ room striping items j s range. no_controls s.executor items.owners striping j) seen made)
