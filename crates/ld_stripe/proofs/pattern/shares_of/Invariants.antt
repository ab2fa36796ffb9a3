use Rattle.std.proofs.Common.{◌≡◌, map}
use Rattle.std.specs.List.{range_with_len}
use Rattle.ld_stripe.specs.Striping.{share_at}
use Rattle.ld_stripe.proofs.pattern.shares_of.Given as goal

abbrev pub invariant-loop-position : goal.invariant-loop-position
invariant-loop-position l = l.shares.items ≡ map (λ j. share_at l.owners j l.v) (range_with_len 0 l.position)
