use Rattle.std.proofs.Common.{◌≡◌, ◌-◌, ◌^◌, take}
use Rattle.std.specs.Prelude.{sum, min}
use Rattle.ld_stripe.proofs.weights.capped_sum.Given as goal

abbrev pub invariant-loop-number : goal.invariant-loop-number
invariant-loop-number l = l.total ≡ min (sum (take l.number-index l.numbers)) (2 ^ 64 - 1)
