-- Valid plans: what a plan keeps to, whatever its test.
use Rattle.std.specs.Prelude.{◌==◌, ◌&&◌, ℕ, List, map, filter, ◌≡◌, true, Contains}
use Rattle.std.specs.List.Sorted.{IsStrictlyIncreasing}
use Rattle.ld_machine.specs.Plan.{SlotItem, Part, Plan, is_external, owned_items, owned_slots}
use Rattle.ld_machine.specs.Scenario.{Scenario, is_open_item}
use Rattle.ld_machine.specs.Requirement.{IsRequirement}
use Rattle.ld_machine.specs.WellTimed.{IsWellTimed}

-- the scenario is well timed; its items, and its slots, each have a greater number than the one before;
-- and where it is externally controlled it has no grace
pub record IsValidPart (part : Part) : Type 0 where
  pub timed : IsWellTimed part
  pub items : IsStrictlyIncreasing (owned_items part.executor)
  pub slots : IsStrictlyIncreasing (owned_slots part.executor)
  pub external : is_external part.executor ≡ true → part.grace ≡ 0

-- each scenario is such, as many users are made at the opening as the scenarios plan, and there may be as
-- many as they plan and may add
pub record IsValidPlan (plan : Plan) : Type 0 where
  pub parts : (part : Part) → Contains plan.parts part → IsValidPart part
  pub users : IsRequirement plan.parts plan.planned plan.limit

-- the open items of a slot, of these items
abbrev pub slot_open_items : Scenario → List SlotItem → ℕ → List ℕ
slot_open_items s items slot =
    map (λ (i : SlotItem). i.item) (filter (λ (i : SlotItem). (i.slot == slot) && is_open_item s i.item) items)
