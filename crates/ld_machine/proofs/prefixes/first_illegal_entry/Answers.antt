use Rattle.ld_machine.proofs.PrefixLemmas.{illegal_tells, illegal_told, no_illegal_tells, no_illegal_told}
use Rattle.ld_machine.proofs.prefixes.first_illegal_entry.Goals as goal

pub returns-clause-turn : goal.returns-clause-turn
returns-clause-turn c plan history turn = (illegal_tells plan history turn, illegal_told plan history turn)

pub returns-clause-none : goal.returns-clause-none
returns-clause-none c plan history = (no_illegal_tells plan history, no_illegal_told plan history)
