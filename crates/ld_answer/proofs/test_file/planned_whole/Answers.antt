use Rattle.std.proofs.Common.{refl}
use Rattle.ld_answer.proofs.FaultLemmas.{handed_on}
use Rattle.ld_answer.proofs.OutcomeLemmas.{whole_planned, whole_refused}
use Rattle.ld_answer.proofs.test_file.planned_whole.Goals as goal

pub returns-in_err-plan : goal.returns-in_err-plan
returns-in_err-plan c =
    handed_on _ _ _ _ c.from_residual-in_err-plan.ensures
    (whole_refused c.args.text.items c.deref.result.now c.args.entries c.limit_of.result c.in_ok-part.part c.in_ok-part.whole c.in_err-plan.field-0.0 c.deref.ensures.value
    c.limit_of.ensures c.in_ok-part.ensures.value c.in_err-plan.ensures)

pub returns : goal.returns
returns c = (
  refl,
  whole_planned c.args.text.items c.deref.result.now c.args.entries c.limit_of.result c.in_ok-part.part c.in_ok-part.whole c.in_ok-plan.plan c.deref.ensures.value
      c.limit_of.ensures c.in_ok-part.ensures.value c.in_ok-plan.ensures,
)
