use Rattle.ld_machine.proofs.CandidateLemmas.{above_tells, above_is, none_above, above_none, above_one, above-append}
use Rattle.ld_machine.proofs.together.least_above_reading.Goals as goal

pub returns-clause-least : goal.returns-clause-least
returns-clause-least c t moments m = (above_tells t moments m, above_is t moments m)

pub returns-clause-none : goal.returns-clause-none
returns-clause-none c t moments = (none_above t moments, above_none t moments)

pub returns-clause-one : goal.returns-clause-one
returns-clause-one c = above_one

pub returns-clause-joined : goal.returns-clause-joined
returns-clause-joined c = above-append
