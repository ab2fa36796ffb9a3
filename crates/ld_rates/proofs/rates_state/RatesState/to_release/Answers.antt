use Rattle.std.proofs.Common.{◌∙◌, sym, rules}
use Rattle.ld_course.proofs.FirstLemmas.{nobody_goes}
use Rattle.ld_rates.proofs.ShownLemmas.{none_goes}
use Rattle.ld_rates.proofs.rates_state.RatesState.to_release.Goals as goal

pub returns-then-may_release-clause-none : goal.returns-then-may_release-clause-none
returns-then-may_release-clause-none c = none_goes c.args.self.now c.args.prefer c.args.reading c.chosen.result (search rules)

pub returns-else-may_release-clause-none : goal.returns-else-may_release-clause-none
returns-else-may_release-clause-none c s n shows = nobody_goes n s c.args.reading (λ h at. sym (c.may_release.ensures s h.slot shows) ∙ c.if-may_release.false)
