use Rattle.std.proofs.Common.{arith}
use Rattle.std.proofs.lemmas.List.Sums.{count_by-le-length}
use Rattle.ld_pool.specs.Users.{is_busy}
use Rattle.ld_pool.proofs.pool.Pool.busy_count.Goals as goal

pub returns-clause-few : goal.returns-clause-few
returns-clause-few c =
    let few = count_by-le-length is_busy c.self.inside.users.items in
    omega (arith, c.self.invariant.playing, c.self.invariant.room.within, c.self.invariant.few)
