use Rattle.std.proofs.Common.{◌≡◌, ◌+◌, ◌*◌, length, max, min, arith}
use Rattle.ld_set.proofs.MomentLemmas.{first_to}
use Rattle.ld_set.proofs.moment_table.due_in.Goals as goal

pub returns : goal.returns
returns c =
    let to : c.min-to.result ≡ min (length c.args.moments.now) (32 * c.args.block + 32) = omega (arith, c.min-to.ensures) in
    let from : c.max.result ≡ max c.args.from (32 * c.args.block) = omega (arith, c.max.ensures) in
    first_to _ _ _ _ _ (rw (from, to) at c.first_due_between.ensures)
