use Rattle.std.proofs.Common.{refl}
use Rattle.ld_machine.proofs.CandidateLemmas.{least_tells, least_is, no_least, least-append}
use Rattle.ld_machine.proofs.together.least_candidate.Goals as goal

pub returns-clause-least : goal.returns-clause-least
returns-clause-least c moments m = (least_tells moments m, least_is moments m)

pub returns-clause-none : goal.returns-clause-none
returns-clause-none c moments = (no_least moments, λ e. rw e refl)

pub returns-clause-joined : goal.returns-clause-joined
returns-clause-joined c = least-append
