use Rattle.std.proofs.Common.{◌≡◌}
use Rattle.ld_stripe.specs.Striping.{share_at}
use Rattle.ld_stripe.proofs.pattern.next_owned.Given as goal

abbrev pub invariant-loop-index : goal.invariant-loop-index
invariant-loop-index l = share_at l.owners l.position l.index ≡ share_at l.owners l.position l.from
