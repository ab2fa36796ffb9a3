-- Each owned slot has its iterations, and there are no more slots than in the whole test.
use Rattle.std.proofs.Common.{◌≤◌, ◌*◌, ◌∙◌, length, arith, ap, subst, sym}
use Rattle.std.proofs.Math.Nat.{mul-le-mul_right}
use Rattle.ld_stripe.specs.Striping.{owned_indices}
use Rattle.ld_stripe.proofs.StripingLaws.{share_at_most}
use Rattle.ld_machine.specs.Plan.{owned_items}
use Rattle.ld_options.specs.Ranges.{most_items}
use Rattle.ld_plan.specs.OwnedItems.{ItemsView}
use Rattle.ld_plan.specs.OwnedSlots.{slot_executor, slot_item_count}
use Rattle.ld_plan.specs.declared.owned_slots.Work.{Work}
use Rattle.ld_machine.specs.Requirement.{owned_users}
use Rattle.ld_plan.proofs.OwnedLemmas.{indices_length}
use Rattle.ld_plan.proofs.OwnedSlotsLemmas.{slots_planned}
use Rattle.ld_plan.proofs.SlotItemsLemmas.{items_of_slots_length}
use Rattle.ld_plan.proofs.owned_slots.OwnedSlots.owned.Goals as goal

pub returns-in-Counted-clause-owned : goal.returns-in-Counted-clause-owned
returns-in-Counted-clause-owned c =
    let o = c.self.inside in
    let slots = owned_indices o.positions.owners o.position o.slots in
    let share = c.share.ensures.planned ∙ ap (λ (v : ItemsView). owned_users v.executor) (sym c.self.view_is) ∙ slots_planned o.work slots in
    rw (sym c.self.view_is)
    (ap (λ n. n * c.in-Counted.iterations) share
    ∙ sym (items_of_slots_length c.in-Counted.iterations slots)
    ∙ ap (λ (w : Work). length (owned_items (slot_executor w slots))) (sym c.in-Counted.is))

pub returns-in-Counted-clause-few : goal.returns-in-Counted-clause-few
returns-in-Counted-clause-few c =
    let o = c.self.inside in
    let slots = owned_indices o.positions.owners o.position o.slots in
    let share = c.share.ensures.planned ∙ ap (λ (v : ItemsView). owned_users v.executor) (sym c.self.view_is) ∙ slots_planned o.work slots
    ∙ indices_length o.positions.owners o.position o.slots in
    let most = share_at_most o.positions.owners o.position o.slots in
    let few : o.slots * c.in-Counted.iterations ≤ most_items =
    subst (λ (w : Work). slot_item_count w o.slots ≤ most_items) c.in-Counted.is c.self.invariant.few_items in
    let within = mul-le-mul_right {m = c.share.result} {n = o.slots} c.in-Counted.iterations (omega arith) in
    omega arith
