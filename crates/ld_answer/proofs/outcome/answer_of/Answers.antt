use Rattle.ld_answer.proofs.RequestLemmas.{asked_of}
use Rattle.ld_answer.proofs.WordsOutcomeLemmas.{of_request, of_words_fault}
use Rattle.ld_answer.proofs.outcome.answer_of.Goals as goal

pub answer_for-requires : goal.answer_for-requires
answer_for-requires g c = asked_of _ c.in_ok-request.request c.in_ok-request.ensures.asked

pub returns : goal.returns
returns g c = of_request _ c.in_ok-request.request c.answer_for.result _ _ c.in_ok-request.ensures.asked c.answer_for.ensures

pub returns-in_err-request : goal.returns-in_err-request
returns-in_err-request g c = of_words_fault _ _ c.in_err-request.field-0.0 _ c.from_residual.ensures c.in_err-request.ensures.refused
