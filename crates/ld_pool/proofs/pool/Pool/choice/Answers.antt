use Rattle.std.specs.Prelude.{slice_get}
use Rattle.std.proofs.Common.{ap, ◌∙◌}
use Rattle.ld_pool.proofs.FreeLemmas.{first_found, none_found}
use Rattle.ld_pool.proofs.pool.Pool.choice.Goals as goal

pub returns-clause-free : goal.returns-clause-free
returns-clause-free c =
    let first = c.least.ensures.first ∙ ap (λ numbers. slice_get numbers 0) c.self.invariant.listed in
    rw (← c.self.view_is) (first_found c.self.inside.users.items c.least.result first)

pub returns-clause-none : goal.returns-clause-none
returns-clause-none c =
    let first = c.least.ensures.first ∙ ap (λ numbers. slice_get numbers 0) c.self.invariant.listed in
    rw (← c.self.view_is) (none_found c.self.inside.users.items c.least.result first)
