use Rattle.ld_num.proofs.LcmLemmas.{divisor_positive, lcm_of, found, past}
use Rattle.ld_num.proofs.multiple.lcm.Goals as goal

pub nonzero_div-a : goal.nonzero_div-a
nonzero_div-a c = divisor_positive c.args.a c.gcd.result c.requires.a_positive c.gcd.ensures.0

pub returns-clause-least : goal.returns-clause-least
returns-clause-least c =
    found _ _ (lcm_of c.args.a c.args.b c.gcd.result (divisor_positive c.args.a c.gcd.result c.requires.a_positive c.gcd.ensures.0) c.gcd.ensures) c.checked_mul.result c.checked_mul.ensures

pub returns-clause-too_large : goal.returns-clause-too_large
returns-clause-too_large c =
    past _ _ (lcm_of c.args.a c.args.b c.gcd.result (divisor_positive c.args.a c.gcd.result c.requires.a_positive c.gcd.ensures.0) c.gcd.ensures) c.checked_mul.result c.checked_mul.ensures
