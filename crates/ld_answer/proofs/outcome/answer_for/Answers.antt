-- What becomes of a request that names a test.
use Rattle.std.proofs.Common.{◌∙◌, List, ℕ, refl, subst}
use Rattle.std.specs.Prelude.{None}
use Rattle.ld_answer.specs.Planned.{IsCutPlan, RefusesWhole}
use Rattle.ld_answer.specs.TestFile.{entry_limit}
use Rattle.ld_answer.proofs.OutcomeLemmas.{as_request, file_broken, handed_request, plan_outcome, rehearsal_outcome, test_journal, unread_broken, words_journal, words_outcome}
use Rattle.ld_answer.proofs.outcome.answer_for.Goals as goal

pub returns-in_ok-planned-in-Plan : goal.returns-in_ok-planned-in-Plan
returns-in_ok-planned-in-Plan g c =
    as_request _ _ _ _ _ c.in-Plan.is
    (plan_outcome _ _ _ _ _ (g.S.Shelf.seen c.args.shelf.now) (g.S.Shelf.seen c.planned_file.new.shelf) c.in_ok-planned-in-Plan.planned c.plan_answer.result c.in_ok-planned-in-Plan.ensures c.plan_answer.ensures)

pub returns-in_err-planned-in-Plan : goal.returns-in_err-planned-in-Plan
returns-in_err-planned-in-Plan g c =
    as_request _ _ _ _ _ c.in-Plan.is
    (handed_request _ _ c.in_err-planned-in-Plan.field-0.0 _ _ c.from_residual-in_err-planned-in-Plan.ensures (file_broken _ _ _ _ _ refl c.in_err-planned-in-Plan.ensures))

pub returns-in_ok-planned-in-RehearseTest : goal.returns-in_ok-planned-in-RehearseTest
returns-in_ok-planned-in-RehearseTest g c =
    let is = c.in-RehearseTest in
    as_request _ _ _ _ _ is.is
    (rehearsal_outcome is.test is.journal is.iteration is.segment is.sequence is.entries (g.S.Shelf.seen c.args.shelf.now) (g.S.Shelf.seen c.planned_file-in-RehearseTest.new.shelf)
    c.in_ok-planned-in-RehearseTest.planned c.rehearsal_answer.result (test_journal _ is.test is.iteration is.journal is.segment is.sequence is.entries is.is c.requires)
    c.in_ok-planned-in-RehearseTest.ensures c.rehearsal_answer.ensures)

pub returns-in_err-planned-in-RehearseTest : goal.returns-in_err-planned-in-RehearseTest
returns-in_err-planned-in-RehearseTest g c =
    as_request _ _ _ _ _ c.in-RehearseTest.is
    (handed_request _ _ c.in_err-planned-in-RehearseTest.field-0.0 _ _ c.from_residual-in_err-planned-in-RehearseTest.ensures (file_broken _ _ _ _ _ refl c.in_err-planned-in-RehearseTest.ensures))

pub returns-in_ok-planned-in-RehearseWords : goal.returns-in_ok-planned-in-RehearseWords
returns-in_ok-planned-in-RehearseWords g c =
    let is = c.in-RehearseWords in
    let planned = c.in_ok-planned-in-RehearseWords in
    let text = c.in_ok-text-in-RehearseWords.ensures.0 in
    as_request _ _ _ _ _ is.is
    (words_outcome is.rate is.unit is.duration is.pre is.max is.iteration is.journal is.entries (g.S.Shelf.seen c.args.shelf.now) planned.planned c.rehearsal_answer-in-RehearseWords.result
    (words_journal _ is.rate is.unit is.duration is.pre is.max is.iteration is.journal is.entries is.is c.requires) (planned.ensures.0 ∙ text)
    (subst (λ (test : List ℕ). IsCutPlan None None test (entry_limit is.entries) planned.planned.plan) text planned.ensures.1) c.rehearsal_answer-in-RehearseWords.ensures)

pub returns-in_err-planned-in-RehearseWords : goal.returns-in_err-planned-in-RehearseWords
returns-in_err-planned-in-RehearseWords g c =
    let is = c.in-RehearseWords in
    let broken = c.in_err-planned-in-RehearseWords in
    let text = c.in_ok-text-in-RehearseWords.ensures.0 in
    as_request _ _ _ _ _ is.is
    (handed_request _ _ broken.field-0.0 _ _ c.from_residual-in_err-planned-in-RehearseWords.ensures
    (unread_broken _ _ broken.field-0.0 refl (λ other. subst (λ (test : List ℕ). RefusesWhole test (entry_limit is.entries) broken.field-0.0) text (broken.ensures other))))
