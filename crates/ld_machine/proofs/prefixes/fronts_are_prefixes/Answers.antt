use Rattle.ld_machine.proofs.PrefixLemmas.{front_is_prefix, prefix_is_front, beyond_tells, beyond_told, no_beyond_tells, no_beyond_told}
use Rattle.ld_machine.proofs.prefixes.fronts_are_prefixes.Goals as goal

pub returns-clause-front : goal.returns-clause-front
returns-clause-front c plan history = (front_is_prefix plan history, prefix_is_front plan history)

pub returns-clause-beyond : goal.returns-clause-beyond
returns-clause-beyond c plan history turn = (beyond_tells plan history turn, beyond_told plan history turn)

pub returns-clause-none : goal.returns-clause-none
returns-clause-none c plan history = (no_beyond_tells plan history, no_beyond_told plan history)
