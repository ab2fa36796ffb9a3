use Rattle.ld_rehearsal.proofs.ReturnLemmas.{due_within, may_return_due, return_noted, returned_due}
use Rattle.ld_rehearsal.proofs.stage.Stage.return_due.Goals as goal

pub ask-noted-requires : goal.ask-noted-requires
ask-noted-requires c =
    record { may = rw (c.new-stint.ensures, c.empty.ensures) (may_return_due c.args.self.now c.args.user c.args.due c.requires.returning.0 c.requires.returning.1 c.requires.ends) }

pub unreachable-requires : goal.unreachable-requires
unreachable-requires c =
    c.in_default.not-Noted (return_noted c.args.self.now c.new-stint.result c.args.due.finished c.empty.result c.ask-noted.new.self c.ask-noted.result c.ask-noted.ensures.step)

pub clear-requires-clause-within : goal.clear-requires-clause-within
clear-requires-clause-within c = (due_within c.args.self.now c.args.user c.args.due c.requires.returning.0 c.requires.returning.1 c.requires.ends).1

pub returns-clause-returning : goal.returns-clause-returning
returns-clause-returning c =
    rw c.clear.ensures
    (returned_due c.args.self.now c.args.user c.args.due c.requires.returning.0 c.requires.returning.1 c.requires.ends c.ask-noted.new.self c.ask-noted.result
    (rw (← c.new-stint.ensures, ← c.empty.ensures) c.ask-noted.ensures.step))
