use Rattle.ld_machine.proofs.FirstOfEachLemmas.{first_of_its, first_by_firsts}
use Rattle.ld_machine.proofs.together.first_of_each.Goals as goal

pub returns-clause-its : goal.returns-clause-its
returns-clause-its c plan state t = first_of_its plan state t

pub returns-clause-by_firsts : goal.returns-clause-by_firsts
returns-clause-by_firsts c plan state t = first_by_firsts plan state t
