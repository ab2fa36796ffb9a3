use Rattle.ld_machine.proofs.SteadyLemmas.{steady_next, steady_last, steady_wish}
use Rattle.ld_machine.proofs.steady.steady_between_candidates.Goals as goal

pub returns-clause-next : goal.returns-clause-next
returns-clause-next c = steady_next

pub returns-clause-last : goal.returns-clause-last
returns-clause-last c = steady_last

pub returns-clause-wish : goal.returns-clause-wish
returns-clause-wish c = steady_wish
