-- What an instance's plan says of users and items.
use Rattle.std.specs.Prelude.{ℕ, length, slice_get}
use Rattle.std.specs.Option.{option_map_or}
use Rattle.ld_machine.specs.Plan.{Part, owned_items}
use Rattle.ld_plan.specs.PlanView.{PlanView}

-- how many users are made before the run, and how many there may be
abbrev pub planned_of : PlanView → ℕ
planned_of seen = seen.plan.planned

abbrev pub limit_of : PlanView → ℕ
limit_of seen = seen.plan.limit

-- how many items of a scenario the instance owns: none where it has no such scenario
abbrev pub owned_in : ℕ → PlanView → ℕ
owned_in n seen = option_map_or (λ (part : Part). length (owned_items part.executor)) (slice_get seen.plan.parts n) 0
