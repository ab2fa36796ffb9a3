-- The plans of all positions of one sequence, which are the whole test together.
use Rattle.std.specs.Prelude.{◌≡◌, ℕ, List, [], length, map, slice_get}
use Rattle.std.specs.List.{AllByRecursion, range_with_len}
use Rattle.std.specs.Option.{option_map_or}
use Rattle.ld_num.specs.declared.fraction.Frac.{Frac}
use Rattle.ld_segment.specs.Segments.{segments_of}
use Rattle.ld_segment.specs.declared.segment.Segment.{Segment}
use Rattle.ld_machine.specs.Plan.{Arrival, Part, owned_items, owned_slots}
use Rattle.ld_machine.specs.Scenario.{executor_arrivals}
use Rattle.ld_options.specs.declared.options.Options.{Options}
use Rattle.ld_plan.specs.IsPlanOf.{IsPlanOf}
use Rattle.ld_plan.specs.PlanView.{PlanView}
use Rattle.ld_machine.specs.Requirement.{most_owned_users, owned_users}

-- these are the plans of all positions of the sequence, in order
pub record AreAllPlans (options : Options) (sequence : List Frac) (plans : List PlanView) : Type 0 where
  pub positions : map (λ (seen : PlanView). seen.position) plans ≡ range_with_len 0 (length (segments_of sequence))
  pub each : AllByRecursion (λ seen. (segment : Segment) × (entries : ℕ) × IsPlanOf options segment sequence entries seen) plans

-- the items that a plan has of scenario n, its slots, and its arrivals
abbrev pub items_at : ℕ → PlanView → List ℕ
items_at n seen = option_map_or (λ (part : Part). owned_items part.executor) (slice_get seen.plan.parts n) []

abbrev pub slots_at : ℕ → PlanView → List ℕ
slots_at n seen = option_map_or (λ (part : Part). owned_slots part.executor) (slice_get seen.plan.parts n) []

abbrev pub arrivals_at : ℕ → PlanView → List Arrival
arrivals_at n seen = option_map_or (λ (part : Part). executor_arrivals part.executor) (slice_get seen.plan.parts n) []

-- the users that it has of scenario n, and the most that it may have
abbrev pub users_at : ℕ → PlanView → ℕ
users_at n seen = option_map_or (λ (part : Part). owned_users part.executor) (slice_get seen.plan.parts n) 0

abbrev pub most_users_at : ℕ → PlanView → ℕ
most_users_at n seen = option_map_or (λ (part : Part). most_owned_users part.executor) (slice_get seen.plan.parts n) 0
