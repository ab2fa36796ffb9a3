use Rattle.ld_machine.proofs.WishedFirstLemmas.{wished_first, wished_place, nothing_wished, halt_first}
use Rattle.ld_machine.proofs.holders.wishes_of_all.Goals as goal

pub returns-clause-wished : goal.returns-clause-wished
returns-clause-wished c = wished_first

pub returns-clause-place : goal.returns-clause-place
returns-clause-place c = wished_place

pub returns-clause-nothing : goal.returns-clause-nothing
returns-clause-nothing c = nothing_wished

pub returns-clause-halt : goal.returns-clause-halt
returns-clause-halt c = halt_first
