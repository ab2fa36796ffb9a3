use Rattle.std.proofs.Common.{◌<◌, ◌↔◌, ◌≡◌, ◌*◌, ◌/◌, ◌∙◌, List, ℕ, subst, sym}
use Rattle.std.specs.Prelude.{Contains}
use Rattle.std.proofs.lemmas.Bool.{eq-eqb, eqb-true}
use Rattle.ld_machine.specs.Plan.{owned_items}
use Rattle.ld_stripe.specs.Striping.{owned_indices, owner_at}
use Rattle.ld_plan.specs.OwnedItems.{ItemsView}
use Rattle.ld_plan.specs.OwnedSlots.{slot_executor, slot_item_count}
use Rattle.ld_plan.specs.declared.owned_slots.Work.{Work}
use Rattle.ld_plan.proofs.OwnedLemmas.{number_owned}
use Rattle.ld_plan.proofs.SlotItemsLemmas.{items_of_owned_slots}
use Rattle.ld_plan.proofs.owned_slots.OwnedSlots.owns.Goals as goal

pub returns-in-Counted : goal.returns-in-Counted
returns-in-Counted c =
    let o = c.self.inside in
    let item = c.args.item in
    let n = c.in-Counted.iterations in
    let slots = owned_indices o.positions.owners o.position o.slots in
    let below : item < o.slots * n =
    subst (λ (w : Work). item < slot_item_count w o.slots) c.in-Counted.is
    (subst (λ (v : ItemsView). item < v.whole_items) (sym c.self.view_is) c.requires) in
    let owned =
    subst (λ (w : Work). (owner_at o.positions.owners (item / n) ≡ o.position) ↔ Contains (owned_items (slot_executor w slots)) item) (sym c.in-Counted.is)
    (subst (λ (xs : List ℕ). (owner_at o.positions.owners (item / n) ≡ o.position) ↔ Contains xs item)
    (sym (items_of_owned_slots (owner_at o.positions.owners) o.position n o.slots))
    (number_owned (λ x. owner_at o.positions.owners (x / n)) o.position (o.slots * n) item below)) in
    rw (sym c.self.view_is)
    (λ is. owned.0 (sym c.owner.ensures.owner ∙ eqb-true _ _ is), λ has. eq-eqb _ _ (c.owner.ensures.owner ∙ owned.1 has))
