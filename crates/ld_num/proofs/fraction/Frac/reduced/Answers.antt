use Rattle.ld_num.proofs.LcmLemmas.{divisor_positive}
use Rattle.ld_num.proofs.FractionLemmas.{quotient_positive, quotients_coprime, same_value}
use Rattle.ld_num.proofs.fraction.Frac.reduced.Goals as goal

pub nonzero_div-result : goal.nonzero_div-result
nonzero_div-result c = divisor_positive c.args.den c.gcd-divisor.result c.requires c.gcd-divisor.ensures.1

pub nonzero_div-result-2 : goal.nonzero_div-result-2
nonzero_div-result-2 c = divisor_positive c.args.den c.gcd-divisor.result c.requires c.gcd-divisor.ensures.1

pub invariant_of-result : goal.invariant_of-result
invariant_of-result c = record {
  positive = quotient_positive c.args.den c.gcd-divisor.result c.args.num c.requires c.gcd-divisor.ensures;
  lowest = quotients_coprime c.args.num c.args.den c.gcd-divisor.result c.requires c.gcd-divisor.ensures;
}

pub returns : goal.returns
returns c = same_value c.args.num c.args.den c.gcd-divisor.result c.gcd-divisor.ensures
