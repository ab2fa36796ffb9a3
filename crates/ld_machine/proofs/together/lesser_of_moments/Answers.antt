use Rattle.ld_machine.proofs.CandidateLemmas.{lesser_none, lesser_swap, lesser_along}
use Rattle.ld_machine.proofs.together.lesser_of_moments.Goals as goal

pub returns-clause-none : goal.returns-clause-none
returns-clause-none c = lesser_none

pub returns-clause-swapped : goal.returns-clause-swapped
returns-clause-swapped c = lesser_swap

pub returns-clause-along : goal.returns-clause-along
returns-clause-along c = lesser_along
