use Rattle.std.specs.Prelude.{◌*◌, ◌≤◌, Some, length}
use Rattle.std.proofs.Common.{arith}
use Rattle.ld_set.specs.Moments.{IsLeastAmong}
use Rattle.ld_set.proofs.MomentLemmas.{above_least, above_none, above_passes, above_there}
use Rattle.ld_set.proofs.moment_table.MomentTable.least_above.Goals as goal

pub returns : goal.returns
returns c =
    let moments = c.self.inside.moments.items in
    let is : IsLeastAmong moments (Some c.args.reading) 0 (32 * c.loop-block.block) c.loop-block.least = rw (← c.self.view_is) at c.loop-block.invariant in
    let all : length moments ≤ 32 * c.loop-block.block = omega (arith, c.self.invariant.room, c.len-block-end.ensures, c.loop-block-test.false) in
    rw (← c.self.view_is)
    (record { there = above_there _ _ _ _ is all; above = above_passes _ _ _ _ is all; least = above_least _ _ _ _ is all; none = above_none _ _ _ _ is all })
