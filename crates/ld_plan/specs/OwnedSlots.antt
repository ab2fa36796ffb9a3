-- How what a position owns of users with slots is seen, and what holds of its fields.
use Rattle.std.specs.Prelude.{◌<◌, ◌≤◌, ◌*◌, ℕ, List, length}
use Rattle.ld_machine.specs.Plan as machine
use Rattle.ld_options.specs.Ranges.{most_items, most_users}
use Rattle.ld_options.specs.declared.executor.Executor.{Executor}
use Rattle.ld_options.specs.declared.executor.Executor.TheVariants.{ConstantVus, PerVuIterations}
use Rattle.ld_stripe.specs.Striping.{owned_indices}
use Rattle.ld_plan.specs.Executor.{slot_iterations}
use Rattle.ld_plan.specs.OwnedItems.{ItemsView}
use Rattle.ld_plan.specs.declared.owned_slots.OwnedSlots.TheInside.{Inside}
use Rattle.ld_plan.specs.declared.owned_slots.Work.{Work}
use Rattle.ld_plan.specs.declared.owned_slots.Work.TheVariants.{Counted, Endless}

-- so many users that each have this to do, for a time
abbrev pub slot_users : Work → ℕ → ℕ → Executor
slot_users (Counted iterations) users time = PerVuIterations users iterations time
slot_users Endless users time = ConstantVus users time

-- the users of these slots, as the machine has them
abbrev pub slot_executor : Work → List ℕ → machine.Executor
slot_executor (Counted iterations) slots = slot_iterations iterations slots
slot_executor Endless slots = machine.ConstantVus slots

-- how many items so many slots have
abbrev pub slot_item_count : Work → ℕ → ℕ
slot_item_count (Counted iterations) slots = slots * iterations
slot_item_count Endless slots = 0

abbrev pub slots_view : Inside → ItemsView
slots_view o =
    record {
      executor = slot_executor o.work (owned_indices o.positions.owners o.position o.slots);
      whole_items = slot_item_count o.work o.slots;
    }

-- there are few slots and few items
pub record AreOwnedSlots (o : Inside) : Type 0 where
  pub few_slots : o.slots ≤ most_users
  pub few_items : slot_item_count o.work o.slots ≤ most_items
  pub position : o.position < length o.positions.weights
