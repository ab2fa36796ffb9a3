use Rattle.ld_machine.proofs.ToldLemmas.{first_told, grown_place, second_told, taken_for_place, taken_place}
use Rattle.ld_machine.proofs.told.enabled_may_be_told.Goals as goal

pub returns-clause-first : goal.returns-clause-first
returns-clause-first c = first_told

pub returns-clause-taken : goal.returns-clause-taken
returns-clause-taken c = taken_place

pub returns-clause-grown : goal.returns-clause-grown
returns-clause-grown c = grown_place

pub returns-clause-taken_for : goal.returns-clause-taken_for
returns-clause-taken_for c = taken_for_place

pub returns-clause-second : goal.returns-clause-second
returns-clause-second c = second_told
