use Rattle.std.proofs.Common.{◌∙◌, sym}
use Rattle.ld_stripe.specs.Striping.{owned_indices}
use Rattle.ld_plan.proofs.OwnedLemmas.{indices_length}
use Rattle.ld_plan.proofs.OwnedSlotsLemmas.{slots_limit, slots_planned, slots_steady}
use Rattle.ld_plan.proofs.owned_slots.OwnedSlots.share.Goals as goal

pub returns-clause-planned : goal.returns-clause-planned
returns-clause-planned c =
    let o = c.self.inside in
    rw (sym c.self.view_is)
    (c.share_of.ensures
    ∙ sym (slots_planned o.work (owned_indices o.positions.owners o.position o.slots) ∙ indices_length o.positions.owners o.position o.slots))

pub returns-clause-limit : goal.returns-clause-limit
returns-clause-limit c =
    let o = c.self.inside in
    rw (sym c.self.view_is)
    (c.share_of.ensures
    ∙ sym (slots_limit o.work (owned_indices o.positions.owners o.position o.slots) ∙ indices_length o.positions.owners o.position o.slots))

pub returns-clause-steady : goal.returns-clause-steady
returns-clause-steady c =
    let o = c.self.inside in
    rw (sym c.self.view_is) (slots_steady o.work (owned_indices o.positions.owners o.position o.slots))
