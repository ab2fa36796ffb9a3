use Rattle.ld_words.proofs.FormReadLemmas.{form_not_refused, form_once, read_by_form}
use Rattle.ld_words.proofs.laws.form_of_words.Goals as goal

pub returns-clause-read : goal.returns-clause-read
returns-clause-read c = read_by_form

pub returns-clause-one : goal.returns-clause-one
returns-clause-one c = form_once

pub returns-clause-apart : goal.returns-clause-apart
returns-clause-apart c = form_not_refused
