use Rattle.std.specs.Prelude.{length}
use Rattle.std.proofs.Common.{ap, ◌∙◌}
use Rattle.ld_pool.proofs.FreeLemmas.{numbers_counted}
use Rattle.ld_pool.proofs.pool.Pool.free_count.Goals as goal

pub returns : goal.returns
returns c = rw (← c.self.view_is) (c.count.ensures.count ∙ ap length c.self.invariant.listed ∙ numbers_counted c.self.inside.users.items)
