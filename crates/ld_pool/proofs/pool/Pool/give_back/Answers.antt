use Rattle.std.proofs.Common.{arith, refl}
use Rattle.ld_pool.proofs.KeptLemmas.{kept-same}
use Rattle.ld_pool.proofs.UserLemmas.{some_busy}
use Rattle.ld_pool.proofs.pool.Pool.give_back.Goals as goal

pub overflow_sub-self : goal.overflow_sub-self
overflow_sub-self c =
    let busy = rw (← c.self.view_is) at c.requires.1 in
    let some = some_busy c.self.inside.users.items c.args.stint.user _ busy in
    omega (arith, c.self.invariant.playing)

pub invariant_of-self : goal.invariant_of-self
invariant_of-self c =
    let busy = rw (← c.self.view_is) at c.requires.1 in
    let some = some_busy c.self.inside.users.items c.args.stint.user _ busy in
    rw (c.set.ensures, c.user-user.ensures)
    (kept-same _ _ _ _ _ c.self.inside.free _ _ _ _ _ c.self.invariant busy refl (omega (arith, c.self.invariant.playing)))
