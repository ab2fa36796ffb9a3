use Rattle.std.proofs.Common.{◌≤◌, arith, ap, subst, sym}
use Rattle.std.specs.Prelude.{sum}
use Rattle.ld_stripe.specs.StripeFault.{greatest_period}
use Rattle.ld_stripe.specs.Striping.{IsStriping}
use Rattle.ld_stripe.proofs.LowestTermsLemmas.{reduced_positive, sum_positive}
use Rattle.ld_stripe.proofs.StripeFaultLemmas.{not_refused}
use Rattle.ld_stripe.proofs.stripe.Stripe.of_weights.Goals as goal

pub invariant_of-result : goal.invariant_of-result
invariant_of-result c =
    let positive = c.in_ok-weights.ensures.some in
    let striping = subst (λ weights. IsStriping weights c.in_ok-owners.owners.items) c.deref-2.ensures.value c.in_ok-owners.ensures in
    let period = striping.period in
    (striping, omega arith)

pub returns-clause-accepted : goal.returns-clause-accepted
returns-clause-accepted c =
    let same = ap sum c.deref.ensures.value in
    let period : sum c.in_ok-weights.weights.items ≤ greatest_period = omega arith in
    not_refused _ _ (record { some = grind arith; few = omega arith }) (sym c.in_default.ensures.first) (sum_positive _ (grind arith) c.in_default.ensures.none) c.in_ok-weights.ensures.terms period

pub returns-clause-weighted : goal.returns-clause-weighted
returns-clause-weighted c = reduced_positive _ _ c.in_default.ensures.none c.in_ok-weights.ensures.terms
