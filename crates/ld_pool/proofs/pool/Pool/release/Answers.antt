use Rattle.std.proofs.Common.{refl}
use Rattle.ld_pool.proofs.KeptLemmas.{kept-freed}
use Rattle.ld_pool.proofs.UserLemmas.{idle_is}
use Rattle.ld_pool.proofs.pool.Pool.release.Goals as goal

pub invariant_of-self : goal.invariant_of-self
invariant_of-self c =
    let idle = idle_is _ (rw (← c.self.view_is) at c.requires) in
    kept-freed _ _ _ _ _ _ _ _ _ _ _ c.self.invariant idle.1 refl c.insert.ensures.numbers c.insert.ensures.limit refl refl
