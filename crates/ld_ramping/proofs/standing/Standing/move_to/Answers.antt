use Rattle.std.proofs.Common.{Contains, List, ◌∙◌, subst, sym}
use Rattle.ld_ramping.specs.Standing.{numbers_of}
use Rattle.ld_ramping.specs.declared.slot.Slot.{Slot}
use Rattle.ld_ramping.proofs.StandingLemmas.{on_owned}
use Rattle.ld_ramping.proofs.standing.Standing.move_to.Goals as goal

pub put_on-requires-clause-others : goal.put_on-requires-clause-others
put_on-requires-clause-others c k among =
    subst (λ (slots : List Slot). Contains (numbers_of slots) k) (sym c.as_slice.ensures)
    (on_owned (record { begin = c.self.inside.begin; slots = c.self.inside.slots }) c.self.inside.reading k (sym (c.self.invariant.each k) ∙ among))
