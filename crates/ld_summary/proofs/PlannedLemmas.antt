-- What plans own of a scenario, plan by plan.
use Rattle.std.proofs.Common.{◌≡◌, ◌<◌, ◌≤◌, ◌+◌, ℕ, List, length, get_or, take, arith, ap}
use Rattle.std.proofs.lemmas.List.{take_more}
use Rattle.std.proofs.lemmas.List.Sums.{sum_by_push}
use Rattle.std.proofs.lemmas.Option.{slice_get_past}
use Rattle.std.specs.Option.{IsSomeAnd, option_map_or}
use Rattle.std.specs.Prelude.{None, Option, Some, slice_get, sum_by}
use Rattle.ld_machine.specs.Plan.{Part, owned_items}
use Rattle.ld_plan.specs.PlanView.{PlanView}
use Rattle.ld_summary.specs.Planned.{owned_in}

-- the items of one plan more
pub items_more : (n : ℕ) (plans : List PlanView) (i : ℕ) (seen : PlanView) (items more : ℕ) → i < length plans → seen ≡ get_or plans i seen →
    items ≡ sum_by (owned_in n) (take i plans) → more ≡ items + owned_in n seen → more ≡ sum_by (owned_in n) (take (i + 1) plans)
items_more n plans i seen items more below at before is =
    let next = ap (sum_by (owned_in n)) (take_more plans i seen below) in
    let pushed = sum_by_push (owned_in n) (take i plans) (get_or plans i seen) in
    let here = ap (owned_in n) at in
    omega arith

owned_of : (o : Option Part) (items : ℕ) → IsSomeAnd o (λ (part : Part). items ≡ length (owned_items part.executor)) →
    items ≡ option_map_or (λ (part : Part). length (owned_items part.executor)) o 0
owned_of None items is = absurd is
owned_of (Some part) items is = is

-- a plan that has the scenario owns so many
pub owned_is : (n : ℕ) (seen : PlanView) (items : ℕ) → IsSomeAnd (slice_get seen.plan.parts n) (λ (part : Part). items ≡ length (owned_items part.executor)) → items ≡ owned_in n seen
owned_is n seen items is = owned_of (slice_get seen.plan.parts n) items is

-- one that hasn't owns none
pub owned_none : (n : ℕ) (seen : PlanView) → length seen.plan.parts ≤ n → owned_in n seen ≡ 0
owned_none n seen past = ap (λ (o : Option Part). option_map_or (λ (part : Part). length (owned_items part.executor)) o 0) (slice_get_past seen.plan.parts n past)
