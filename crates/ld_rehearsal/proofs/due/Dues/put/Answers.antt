use Rattle.ld_rehearsal.proofs.DueLemmas.{kept_changed}
use Rattle.ld_rehearsal.proofs.due.Dues.put.Goals as goal

pub invariant_of-self : goal.invariant_of-self
invariant_of-self c = rw c.set.ensures (kept_changed _ _ _ _ c.self.invariant)
