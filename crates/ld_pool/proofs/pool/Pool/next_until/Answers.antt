use Rattle.ld_pool.proofs.UntilLemmas.{least_until}
use Rattle.ld_pool.proofs.pool.Pool.next_until.Goals as goal

pub returns : goal.returns
returns c =
    let least = c.least_above.ensures in
    rw (← c.self.view_is) (least_until _ _ _ c.self.invariant.timed _ _ least.there least.above least.least least.none)
