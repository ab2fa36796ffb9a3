-- The history of every run is legal.
use Rattle.std.proofs.Common.{[], ◌∷◌, ◌++◌, List, refl, subst, sym}
use Rattle.ld_base.specs.declared.entry.Entry.{Entry}
use Rattle.ld_core.specs.Runs.{Asked, Leave}
use Rattle.ld_machine.specs.History.{IsLegal}
use Rattle.ld_machine.specs.Plan.{Plan}
use Rattle.ld_machine.proofs.LegalLemmas.{goes_on_legally}

legal_from : (plan : Plan) (history : List Entry) (asks : List Asked) (after : List Entry) → IsLegal plan history →
    Leave plan history asks after → IsLegal plan after
legal_from plan history [] after legal same = subst (IsLegal plan) (sym same) legal
legal_from plan history (one ∷ rest) after legal leave =
    legal_from plan (history ++ leave.0.entries) rest after (goes_on_legally plan history one.thread one.ask one.reading leave.0 legal leave.1) leave.2

pub every_run_legal : (plan : Plan) (asks : List Asked) (history : List Entry) → Leave plan [] asks history → IsLegal plan history
every_run_legal plan asks history leave = legal_from plan [] asks history refl leave
