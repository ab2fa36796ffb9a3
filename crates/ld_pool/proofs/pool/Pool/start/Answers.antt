use Rattle.std.proofs.Common.{arith, refl}
use Rattle.std.proofs.lemmas.List.Sums.{count_by-le-length}
use Rattle.ld_pool.specs.Users.{is_busy}
use Rattle.ld_pool.proofs.KeptLemmas.{kept-same}
use Rattle.ld_pool.proofs.pool.Pool.start.Goals as goal

pub overflow_add-self : goal.overflow_add-self
overflow_add-self c =
    let few = count_by-le-length is_busy c.self.inside.users.items in
    omega (arith, c.self.invariant.playing, c.self.invariant.room.within, c.self.invariant.few)

pub invariant_of-self : goal.invariant_of-self
invariant_of-self c =
    rw c.set.ensures
    (kept-same _ _ _ _ _ c.self.inside.free _ _ _ _ _ c.self.invariant (rw (← c.self.view_is) at c.requires) refl (omega arith))
