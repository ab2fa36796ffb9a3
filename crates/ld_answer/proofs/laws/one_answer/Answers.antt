use Rattle.ld_answer.proofs.AnswerLemmas.{one_text}
use Rattle.ld_answer.proofs.WordsLemmas.{among_words_once, answered_not_among, answered_not_unread, unread_not_among, unread_once}
use Rattle.ld_answer.proofs.laws.one_answer.Goals as goal

pub returns-clause-text : goal.returns-clause-text
returns-clause-text c = one_text

pub returns-clause-unread : goal.returns-clause-unread
returns-clause-unread c = unread_once

pub returns-clause-among : goal.returns-clause-among
returns-clause-among c = among_words_once

pub returns-clause-first : goal.returns-clause-first
returns-clause-first c = unread_not_among

pub returns-clause-answered : goal.returns-clause-answered
returns-clause-answered c = answered_not_unread

pub returns-clause-answered_among : goal.returns-clause-answered_among
returns-clause-answered_among c = answered_not_among
