use Rattle.ld_words.proofs.ReadingLemmas.{asked_not_refused, asked_once, fault_once}
use Rattle.ld_words.proofs.laws.one_meaning.Goals as goal

pub returns-clause-asked : goal.returns-clause-asked
returns-clause-asked c = asked_once

pub returns-clause-refused : goal.returns-clause-refused
returns-clause-refused c = fault_once

pub returns-clause-apart : goal.returns-clause-apart
returns-clause-apart c = asked_not_refused
