use Rattle.std.proofs.Common.{refl}
use Rattle.ld_pool.proofs.KeptLemmas.{kept-taken}
use Rattle.ld_pool.proofs.pool.Pool.take.Goals as goal

pub invariant_of-self : goal.invariant_of-self
invariant_of-self c =
    let free = rw (← c.self.view_is) at c.in_ok-user.ensures.free in
    kept-taken _ _ _ _ _ _ _ _ _ _ _ c.self.invariant free refl c.remove.ensures.numbers c.remove.ensures.limit refl refl
