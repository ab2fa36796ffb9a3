use Rattle.std.proofs.Common.{◌∙◌, ℕ, List, ap, subst}
use Rattle.ld_journal.specs.Journal.{journal_text}
use Rattle.ld_plan.specs.Plan.{IsMade}
use Rattle.ld_answer.specs.Rehearsal.{header_of}
use Rattle.ld_answer.specs.declared.answer.NamedFile.{NamedFile}
use Rattle.ld_answer.proofs.RehearsalLemmas.{answered, writable}
use Rattle.ld_answer.proofs.rehearsal.rehearsal_answer.Goals as goal

pub texts_of-requires : goal.texts_of-requires
texts_of-requires c =
    record {
      legal = rw c.in_ok-plan.ensures.plan c.in_ok-plan.ensures.rehearsed.legal;
      writable =
          writable c.deref.result.now c.args.iteration c.in_ok-plan.field-0.plan c.in_ok-plan.field-0.history.entries (rw c.deref.ensures.value c.requires.short)
          (subst IsMade c.plan.view_is c.plan.invariant) (rw c.in_ok-plan.ensures.plan c.in_ok-plan.ensures.rehearsed);
    }

pub returns-in-Ok : goal.returns-in-Ok
returns-in-Ok c =
    let played = c.in_ok-plan.field-0 in
    let texts = c.in-Ok.texts in
    answered c.args.test.text.items c.args.iteration c.args.journal.now texts.file.name c.args.test.plan played.plan played.history played.full texts.file.bytes texts.summary
    c.in_ok-plan.ensures.plan c.in_ok-plan.ensures.rehearsed c.in_ok-plan.ensures.first c.in_ok-plan.ensures.settled c.in_ok-plan.ensures.in_time
    (ap (λ (file : NamedFile). file.name) c.in-Ok.ensures.file)
    (ap (λ (file : NamedFile). file.bytes) c.in-Ok.ensures.file ∙ ap (λ (test : List ℕ). journal_text (header_of test played.plan) played.history.entries) c.deref.ensures.value)
    c.in-Ok.ensures.summary
