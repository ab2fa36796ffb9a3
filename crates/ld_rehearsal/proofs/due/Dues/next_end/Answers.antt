use Rattle.ld_rehearsal.proofs.DueLemmas.{least_of_table}
use Rattle.ld_rehearsal.proofs.due.Dues.next_end.Goals as goal

pub returns : goal.returns
returns c =
    let least = c.least.ensures in
    rw (← c.self.view_is) (least_of_table _ _ c.self.invariant _ least.there least.least least.none)
