-- What the parts of a position need of users is what it needs of the scenarios, and never more than the whole test needs.
use Rattle.std.proofs.Common.{◌≡◌, ◌≤◌, ◌+◌, ◌-◌, ◌∙◌, ℕ, Bool, true, false, List, [], ◌∷◌, cond, arith, ap₂, refl, sym, subst}
use Rattle.std.specs.Prelude.{sum_by}
use Rattle.std.specs.List.{AllByRecursion}
use Rattle.std.proofs.lemmas.List.Sums.{sum_by-cons}
use Rattle.ld_stripe.specs.Striping.{Striping, share_at}
use Rattle.ld_stripe.proofs.StripingLaws.{share_at_most}
use Rattle.ld_machine.specs.Plan.{Part}
use Rattle.ld_machine.specs.Requirement.{IsGreatest, IsRequirement, executor_extra, executor_need, extra, need}
use Rattle.ld_machine.proofs.ValidPlanLemmas.{one_greatest}
use Rattle.ld_options.specs.Ranges.{AreInRange, IsScenarioInRange}
use Rattle.ld_options.specs.declared.options.Options.{Options}
use Rattle.ld_options.specs.declared.scenario.Scenario.{Scenario}
use Rattle.ld_plan.specs.Executor.{max_of, pre_of}
use Rattle.ld_plan.specs.IsPlanOf.{AreOwned, part_of, whole_striping}
use Rattle.ld_plan.specs.Need.{is_on, most_at, most_on, planned_at, planned_on}
use Rattle.ld_plan.specs.PartView.{PartView, parts_of}
use Rattle.ld_plan.specs.PlanFault.{IsWholeLimit}
use Rattle.ld_plan.proofs.GreatestLemmas.{most_is_greatest, some_most}
use Rattle.ld_plan.proofs.NeedLemmas.{of_parts}
use Rattle.ld_plan.proofs.ExecutorLemmas.{pre_within, users_added, users_needed}
use Rattle.ld_plan.proofs.PartLemmas.{parts_of_scenarios}
use Rattle.ld_plan.proofs.StripingLemmas.{share_rises}
use Rattle.ld_plan.proofs.WholeLemmas.{share_of_whole}

-- ---- what the parts need

-- those that may be added at a moment
abbrev added_on : List ℕ → ℕ → ℕ → Scenario → ℕ
added_on owners j t s =
    cond (is_on t s) (share_at owners j (max_of s.executor) - share_at owners j (pre_of s.executor)) 0

both_on : (on : Bool) (pre most : ℕ) → pre ≤ most → cond on pre 0 + cond on (most - pre) 0 ≡ cond on most 0
both_on true pre most within = omega arith
both_on false pre most within = refl

-- those that are planned and those that may be added are those that there may be
both_at : (owners : List ℕ) (j t : ℕ) (scenarios : List Scenario) → AllByRecursion IsScenarioInRange scenarios →
    sum_by (planned_on owners j t) scenarios + sum_by (added_on owners j t) scenarios ≡ sum_by (most_on owners j t) scenarios
both_at owners j t [] ranges = refl
both_at owners j t (s ∷ scenarios) ranges =
    let rest = both_at owners j t scenarios ranges.1 in
    let within = pre_within s.executor ranges.0.executor in
    let here =
    both_on (is_on t s) (share_at owners j (pre_of s.executor)) (share_at owners j (max_of s.executor))
    (share_rises owners j (pre_of s.executor) (max_of s.executor) within) in
    let planned = sum_by-cons (planned_on owners j t) s scenarios in
    let added = sum_by-cons (added_on owners j t) s scenarios in
    let most = sum_by-cons (most_on owners j t) s scenarios in
    omega arith

need_is : (options : Options) (striping : Striping) (j : ℕ) (views : List PartView) → AreOwned options striping j views → (t : ℕ) →
    need (parts_of views) t ≡ planned_at striping.owners j options.scenarios t
need_is options striping j views owned t =
    of_parts (λ (part : Part). executor_need part.executor part t) options striping (λ j s. planned_on striping.owners j t s)
    (λ room items j s. users_needed s.executor items.owners striping j (part_of room striping items j s) t) j options.scenarios views owned

extra_is : (options : Options) (striping : Striping) (j : ℕ) (views : List PartView) → AreOwned options striping j views → (t : ℕ) →
    extra (parts_of views) t ≡ sum_by (added_on striping.owners j t) options.scenarios
extra_is options striping j views owned t =
    of_parts (λ (part : Part). executor_extra part.executor part t) options striping (λ j s. added_on striping.owners j t s)
    (λ room items j s. users_added s.executor items.owners striping j (part_of room striping items j s) t) j options.scenarios views owned

most_is : (options : Options) (striping : Striping) (j : ℕ) (views : List PartView) → AreInRange options.scenarios →
    AreOwned options striping j views → (t : ℕ) → need (parts_of views) t + extra (parts_of views) t ≡ most_at striping.owners j options.scenarios t
most_is options striping j views ranges owned t =
    ap₂ (λ a b. a + b) (need_is options striping j views owned t) (extra_is options striping j views owned t)
    ∙ both_at striping.owners j t options.scenarios ranges

-- ---- the greatest need

-- the greatest of what is the same at each moment
same_greatest : (f g : ℕ → ℕ) (n : ℕ) → ((t : ℕ) → f t ≡ g t) → IsGreatest f n → IsGreatest g n
same_greatest f g n same is =
    record {
      moment = is.moment;
      reached = sym (same is.moment) ∙ is.reached;
      at_most = λ t. let here = same t in let most = is.at_most t in omega arith;
    }

-- the greatest needs of a position's scenarios are the requirement of its parts
pub requirement_of : (options : Options) (striping : Striping) (j : ℕ) (views : List PartView) (planned limit : ℕ) → AreInRange options.scenarios →
    AreOwned options striping j views → IsGreatest (planned_at striping.owners j options.scenarios) planned →
    IsGreatest (most_at striping.owners j options.scenarios) limit → IsRequirement (parts_of views) planned limit
requirement_of options striping j views planned limit ranges owned planned_is limit_is =
    record {
      planned_is = same_greatest _ _ planned (λ t. sym (need_is options striping j views owned t)) planned_is;
      limit_is = same_greatest _ _ limit (λ t. sym (most_is options striping j views ranges owned t)) limit_is;
    }

pub limit_of : (options : Options) (striping : Striping) (j : ℕ) (views : List PartView) (planned limit : ℕ) → AreInRange options.scenarios →
    AreOwned options striping j views → IsRequirement (parts_of views) planned limit → IsGreatest (most_at striping.owners j options.scenarios) limit
limit_of options striping j views planned limit ranges owned is =
    same_greatest _ _ limit (most_is options striping j views ranges owned) is.limit_is

-- ---- the whole test

-- a position needs at each moment at most what the whole test needs
on_within : (on : Bool) (m n : ℕ) → m ≤ n → cond on m 0 ≤ cond on n 0
on_within true m n within = within
on_within false m n within = omega arith

most_within : (owners : List ℕ) (j t : ℕ) (scenarios : List Scenario) → most_at owners j scenarios t ≤ most_at (0 ∷ []) 0 scenarios t
most_within owners j t [] = omega arith
most_within owners j t (s ∷ scenarios) =
    let rest = most_within owners j t scenarios in
    let whole = share_of_whole (max_of s.executor) in
    let share = share_at_most owners j (max_of s.executor) in
    let here = on_within (is_on t s) (share_at owners j (max_of s.executor)) (share_at (0 ∷ []) 0 (max_of s.executor)) (omega arith) in
    let left = sum_by-cons (most_on owners j t) s scenarios in
    let right = sum_by-cons (most_on (0 ∷ []) 0 t) s scenarios in
    omega arith

pub limit_within : (owners : List ℕ) (j : ℕ) (scenarios : List Scenario) (a b : ℕ) → IsGreatest (most_at owners j scenarios) a →
    IsGreatest (most_at (0 ∷ []) 0 scenarios) b → a ≤ b
limit_within owners j scenarios a b of_part of_whole =
    let reached = of_part.reached in
    let within = most_within owners j of_part.moment scenarios in
    let most = of_whole.at_most of_part.moment in
    omega arith

-- the greatest need of the whole test is its limit
whole_limit : (options : Options) (planned limit : ℕ) → AreInRange options.scenarios →
    IsGreatest (planned_at (0 ∷ []) 0 options.scenarios) planned → IsGreatest (most_at (0 ∷ []) 0 options.scenarios) limit → IsWholeLimit options limit
whole_limit options planned limit ranges planned_is limit_is =
    let found = parts_of_scenarios options whole_striping 0 options.scenarios in
    record {
      views = found.0;
      owned = found.1;
      planned = planned;
      users = requirement_of options whole_striping 0 found.0 planned limit ranges found.1 planned_is limit_is;
    }

pub whole_limit_of : (options : Options) (striping : Striping) (scenarios : List Scenario) (planned limit : ℕ) → striping ≡ whole_striping →
    scenarios ≡ options.scenarios → AreInRange options.scenarios → IsGreatest (planned_at striping.owners 0 scenarios) planned →
    IsGreatest (most_at striping.owners 0 scenarios) limit → IsWholeLimit options limit
whole_limit_of options striping scenarios planned limit whole all ranges planned_is limit_is =
    whole_limit options planned limit ranges
    (subst (λ (xs : List Scenario). IsGreatest (planned_at (0 ∷ []) 0 xs) planned) all
    (subst (λ (s : Striping). IsGreatest (planned_at s.owners 0 scenarios) planned) whole planned_is))
    (subst (λ (xs : List Scenario). IsGreatest (most_at (0 ∷ []) 0 xs) limit) all
    (subst (λ (s : Striping). IsGreatest (most_at s.owners 0 scenarios) limit) whole limit_is))

pub limit_of_whole : (options : Options) (limit : ℕ) → AreInRange options.scenarios → IsWholeLimit options limit →
    IsGreatest (most_at (0 ∷ []) 0 options.scenarios) limit
limit_of_whole options limit ranges is = limit_of options whole_striping 0 is.views is.planned limit ranges is.owned is.users

-- a test has one limit
pub one_whole_limit : (options : Options) (a b : ℕ) → AreInRange options.scenarios → IsWholeLimit options a → IsWholeLimit options b → a ≡ b
one_whole_limit options a b ranges of_a of_b =
    one_greatest _ a b (limit_of_whole options a ranges of_a) (limit_of_whole options b ranges of_b)

pub some_whole_limit : (options : Options) → AreInRange options.scenarios → (limit : ℕ) × IsWholeLimit options limit
some_whole_limit options ranges =
    let planned = some_most (planned_at (0 ∷ []) 0 options.scenarios) options.scenarios in
    let limit = some_most (most_at (0 ∷ []) 0 options.scenarios) options.scenarios in (
      limit.0,
      whole_limit options planned.0 limit.0 ranges
          (most_is_greatest (λ (s : Scenario). share_at (0 ∷ []) 0 (pre_of s.executor)) options.scenarios planned.0 planned.1)
          (most_is_greatest (λ (s : Scenario). share_at (0 ∷ []) 0 (max_of s.executor)) options.scenarios limit.0 limit.1),
    )
