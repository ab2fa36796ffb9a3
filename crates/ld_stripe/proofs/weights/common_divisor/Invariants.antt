use Rattle.std.proofs.Common.{take}
use Rattle.ld_stripe.specs.Striping.{IsGreatestDivisor}
use Rattle.ld_stripe.proofs.weights.common_divisor.Given as goal

abbrev pub invariant-loop-number : goal.invariant-loop-number
invariant-loop-number l = IsGreatestDivisor (take l.number-index l.numbers) l.divisor
