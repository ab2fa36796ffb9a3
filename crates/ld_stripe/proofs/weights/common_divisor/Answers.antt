use Rattle.std.proofs.Common.{subst}
use Rattle.std.proofs.lemmas.List.{take_all}
use Rattle.ld_stripe.specs.Striping.{IsGreatestDivisor}
use Rattle.ld_stripe.proofs.LowestTermsLemmas.{greatest_more, divisor_positive}
use Rattle.ld_stripe.proofs.weights.common_divisor.Goals as goal

pub loop-number-preserved : goal.loop-number-preserved
loop-number-preserved c = greatest_more _ _ _ _ c.loop-number-test.true c.loop-number.invariant c.gcd-divisor.ensures

pub returns-clause-positive : goal.returns-clause-positive
returns-clause-positive c =
    divisor_positive _ _ c.requires
    (subst (λ ns. IsGreatestDivisor ns c.loop-number.divisor) (take_all _ _ c.loop-number-test.false) c.loop-number.invariant)
