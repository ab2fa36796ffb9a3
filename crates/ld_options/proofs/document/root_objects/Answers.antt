-- The scripts are looked at behind the options.
use Rattle.std.proofs.Common.{inr}
use Rattle.ld_options.proofs.RefusalLemmas.{handed_on, node_accepts, ok_accepts}
use Rattle.ld_options.proofs.document.root_objects.Goals as goal

pub returns-in_err-scripts-clause-refused : goal.returns-in_err-scripts-clause-refused
returns-in_err-scripts-clause-refused c =
    handed_on _ _ _ c.from_residual-in_err-scripts.ensures
    (λ other. inr (node_accepts _ c.in_ok-only.field-0 c.in_ok-only.ensures.answer.0, inr (ok_accepts _ _ c.in_ok-options.ensures.object, c.in_err-scripts.ensures.refused other)))
