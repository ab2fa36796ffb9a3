use Rattle.std.proofs.Common.{rules}
use Rattle.ld_stripe.proofs.LowestTermsLemmas.{lowest_terms, period_at_most, period_positive}
use Rattle.ld_stripe.proofs.weights.in_lowest_terms.Goals as goal

pub returns-clause-terms : goal.returns-clause-terms
returns-clause-terms c = search (rules, lowest_terms _ _ c.common_divisor.ensures.greatest)

pub returns-clause-some : goal.returns-clause-some
returns-clause-some c = search (rules, period_positive _ _ c.requires (lowest_terms _ _ c.common_divisor.ensures.greatest))

pub returns-clause-at_most : goal.returns-clause-at_most
returns-clause-at_most c = search (rules, period_at_most _ _ c.requires (lowest_terms _ _ c.common_divisor.ensures.greatest))
