use Rattle.ld_answer.proofs.OutcomeLemmas.{cut_broken, file_planned, handed_file, plan_broken_at, read_broken}
use Rattle.ld_answer.specs.TestFile.{entry_limit}
use Rattle.ld_answer.proofs.test_file.planned_file.Goals as goal

pub returns-in_err-part : goal.returns-in_err-part
returns-in_err-part g c = handed_file _ _ _ _ _ c.from_residual.ensures (cut_broken _ _ c.in_err-part.field-0.0 c.in_err-part.ensures.refused)

pub returns-in_err-text : goal.returns-in_err-text
returns-in_err-text g c =
    handed_file _ _ _ _ _ c.from_residual-in_err-text.ensures
    (read_broken _ _ c.in_err-text.field-0.0 _
    (record { from = c.in_ok-part.part.from; to = c.in_ok-part.part.to; points = c.in_ok-part.whole; cut = c.in_ok-part.ensures.value })
    c.in_err-text.ensures)

pub returns-in_err-plan : goal.returns-in_err-plan
returns-in_err-plan g c =
    handed_file _ _ _ _ _ c.from_residual-in_err-plan.ensures
    (plan_broken_at _ _ c.in_err-plan.field-0.0 _ c.in_ok-text.text.items c.deref.result.now c.limit_of.result c.in_ok-part.part c.in_ok-part.whole
    c.in_ok-part.ensures.value c.in_ok-text.ensures c.deref.ensures.value c.limit_of.ensures c.in_err-plan.ensures)

pub returns : goal.returns
returns g c = (
  c.in_ok-text.ensures,
  file_planned c.args.segment.now c.args.sequence.now c.in_ok-text.text.items c.deref.result.now (entry_limit c.args.entries) c.limit_of.result c.in_ok-part.part c.in_ok-part.whole c.in_ok-plan.plan
      c.deref.ensures.value c.limit_of.ensures c.in_ok-part.ensures.value c.in_ok-plan.ensures,
)
