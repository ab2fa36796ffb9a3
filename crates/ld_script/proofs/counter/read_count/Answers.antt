-- The first part of a counter's object that is refused; and what is read of it.
use Rattle.std.proofs.lemmas.Result.{IfOk-weaker}
use Rattle.ld_script.proofs.AnswerLemmas.{handed_on}
use Rattle.ld_script.proofs.CounterLemmas.{add_refused, counter_read, name_refused}
use Rattle.ld_script.proofs.counter.read_count.Goals as goal

pub returns-in_err-name-clause-refused : goal.returns-in_err-name-clause-refused
returns-in_err-name-clause-refused c =
    handed_on _ _ _ c.from_residual-in_err-name.ensures
    (λ other. name_refused c.args.node.now c.in_ok-counter.counter c.args.draft.now.known.names c.in_ok-counter.ensures.0 (c.in_ok-only.field-0, c.in_ok-only.ensures.answer.0) _ (c.in_err-name.ensures.refused other))

pub returns-in_err-add-clause-refused : goal.returns-in_err-add-clause-refused
returns-in_err-add-clause-refused c =
    handed_on _ _ _ c.from_residual-in_err-add.ensures
    (λ other. add_refused c.args.node.now c.in_ok-counter.counter c.args.draft.now.known.names c.in_ok-counter.ensures.0 (c.in_ok-only.field-0, c.in_ok-only.ensures.answer.0) c.in_ok-name.ensures.accepted _
    (c.in_err-add.ensures.answer.1 other))

pub returns-clause-read : goal.returns-clause-read
returns-clause-read c =
    IfOk-weaker _ _ _
    (λ u pushed. counter_read c.args.node.now c.in_ok-counter.counter c.args.draft.now c.read_name.new.draft c.push.new.self c.in_ok-name.name c.in_ok-add.add c.in_ok-counter.ensures.0
    (c.in_ok-only.field-0, c.in_ok-only.ensures.answer.0) c.in_ok-name.ensures.accepted c.in_ok-name.ensures.number c.in_ok-name.ensures.named c.in_ok-add.ensures.answer.0 pushed)
    c.push.ensures.pushed
