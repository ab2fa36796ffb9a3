use Rattle.ld_plan.proofs.OwnedSlotsLemmas.{owned_of_copy}
use Rattle.ld_plan.proofs.owned_slots.OwnedSlots.of.Goals as goal

pub returns-clause-owned : goal.returns-clause-owned
returns-clause-owned c = λ time.
    owned_of_copy c.args.work c.args.users time c.args.positions.now c.in_ok-positions.positions c.args.position c.in_ok-positions.ensures.equal
