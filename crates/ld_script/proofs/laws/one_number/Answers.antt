use Rattle.ld_script.proofs.NumberLemmas.{apart_number, ordered_number}
use Rattle.ld_script.proofs.laws.one_number.Goals as goal

pub returns-clause-scripts : goal.returns-clause-scripts
returns-clause-scripts c = λ names scripts are. ordered_number names are.ordered

pub returns-clause-names : goal.returns-clause-names
returns-clause-names c = λ names are. apart_number names.texts are.apart
