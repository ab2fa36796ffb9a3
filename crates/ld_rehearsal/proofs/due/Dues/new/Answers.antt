use Rattle.std.specs.Prelude.{◌≡◌, None, replicate}
use Rattle.std.proofs.Common.{arith, rules}
use Rattle.ld_rehearsal.proofs.DueLemmas.{kept_new}
use Rattle.ld_rehearsal.proofs.due.Dues.new.Goals as goal

pub invariant_of-result : goal.invariant_of-result
invariant_of-result c =
    let all : c.in_ok-users.users.items ≡ replicate c.args.limit None = search (rules, c.in_ok-users.ensures.items_if_clones_equal) in
    rw (all, c.in_ok-ends.ensures.none) (kept_new _ (omega (arith, c.ranges.limit.fits)))
