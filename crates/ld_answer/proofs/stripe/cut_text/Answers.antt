-- What can't be cut is refused, and what is cut has its text.
use Rattle.ld_answer.specs.Cut.{IsCutRefusal}
use Rattle.ld_answer.proofs.CutLemmas.{cut_answer, cut_refused}
use Rattle.ld_answer.proofs.FaultLemmas.{handed_on, segment_fault}
use Rattle.ld_answer.proofs.stripe.cut_text.Goals as goal

pub returns-in_err-part : goal.returns-in_err-part
returns-in_err-part c =
    handed_on _ _ _ _ c.from_residual.ensures
    (segment_fault (IsCutRefusal c.args.segment.now c.args.sequence.now) c.in_err-part.field-0.0
    (λ named. cut_refused c.args.segment.now c.args.sequence.now c.in_err-part.field-0.0 (c.in_err-part.ensures.refused named)))

pub returns : goal.returns
returns c = cut_answer _ _ _ _ _ _ c.in_ok-part.ensures.value c.part_text.result c.part_text.ensures
