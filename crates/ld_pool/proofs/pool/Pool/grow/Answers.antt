use Rattle.std.proofs.Common.{◌∙◌}
use Rattle.ld_pool.proofs.KeptLemmas.{kept-grown}
use Rattle.ld_pool.proofs.pool.Pool.grow.Goals as goal

pub invariant_of-self : goal.invariant_of-self
invariant_of-self c =
    let below = rw (← c.self.view_is) at c.made.ensures in
    rw (c.push_reserved.ensures.items, c.push_reserved.ensures.capacity)
    (kept-grown _ _ _ _ _ _ _ c.self.invariant (λ full. c.if-made-self.false (below.count ∙ full)))
