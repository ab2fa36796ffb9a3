-- The part of a scenario whose numbers are in their ranges is valid: its items and its slots rise.
use Rattle.std.proofs.Common.{ℕ, sym, subst}
use Rattle.std.specs.List.Sorted.{IsStrictlyIncreasing}
use Rattle.ld_stripe.specs.Striping.{Striping, owner_at}
use Rattle.ld_machine.specs.ValidPlan.{IsValidPart}
use Rattle.ld_options.specs.Ranges.{IsScenarioInRange}
use Rattle.ld_options.specs.declared.scenario.Scenario.{Scenario}
use Rattle.ld_plan.specs.Executor.{slot_count, whole_count}
use Rattle.ld_plan.specs.IsPlanOf.{part_of}
use Rattle.ld_plan.proofs.ExecutorLemmas.{item_owner, items_owned, not_external, slots_owned}
use Rattle.ld_plan.proofs.OwnedLemmas.{numbers_rise}
use Rattle.ld_plan.proofs.TimedLemmas.{part_timed}

pub part_valid : (room : ℕ) (striping items : Striping) (j : ℕ) (s : Scenario) → IsScenarioInRange s → IsValidPart (part_of room striping items j s)
part_valid room striping items j s range =
    let none = not_external s.executor items.owners striping j in
    record {
      timed = part_timed room striping items j s range;
      items = subst IsStrictlyIncreasing (sym (items_owned s.executor items.owners striping j range.executor))
          (numbers_rise (item_owner s.executor items.owners striping) j (whole_count s.executor));
      slots = subst IsStrictlyIncreasing (sym (slots_owned s.executor items.owners striping j))
          (numbers_rise (owner_at striping.owners) j (slot_count s.executor));
      external = λ is. absurd (cc);
    }
