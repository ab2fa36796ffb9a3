use Rattle.std.specs.Prelude.{◌≡◌, None, length}
use Rattle.std.proofs.Common.{ap, sym, ◌∙◌}
use Rattle.ld_set.specs.Moments.{IsLeastAmong}
use Rattle.ld_set.proofs.MomentLemmas.{all_least, all_none, all_there, least_of_leasts}
use Rattle.ld_set.proofs.moment_table.MomentTable.least.Goals as goal

pub returns : goal.returns
returns c =
    let moments = c.self.inside.moments.items in
    let blocks : c.len.result ≡ length c.self.inside.leasts.items = c.len.ensures ∙ sym c.deref.ensures.len ∙ ap length c.deref.ensures.value in
    let is : IsLeastAmong moments None 0 (length moments) c.least_between.result =
    least_of_leasts _ _ _ c.self.invariant (rw (blocks, c.deref.ensures.value) at c.least_between.ensures) in
    rw (← c.self.view_is) (record { there = all_there _ _ is; least = all_least _ _ is; none = all_none _ _ is })
