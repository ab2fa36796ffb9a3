-- Requests that write no file have one answer.
use Rattle.std.proofs.Common.{◌≡◌, ◌∙◌, ℕ, List, ap, subst, sym}
use Rattle.std.specs.Prelude.{None}
use Rattle.ld_machine.proofs.ListLemmas.{some_not_none}
use Rattle.ld_plan.specs.PlanView.{PlanView}
use Rattle.ld_summary.specs.PlanText.{plan_text}
use Rattle.ld_words.specs.Words as words
use Rattle.ld_words.specs.declared.words.Words as requests
use Rattle.ld_words.specs.declared.words.Words.TheVariants.{StripeWeights, StripeSegment, Plan, RehearseTest, RehearseWords, Help}
use Rattle.ld_words.proofs.ReadingLemmas.{asked_once}
use Rattle.ld_answer.specs.Answer.{text_alone}
use Rattle.ld_answer.specs.Answered.{IsAnswerOf}
use Rattle.ld_answer.specs.TestFile.{entry_limit}
use Rattle.ld_answer.specs.declared.answer.Answer.{Answer}
use Rattle.ld_answer.proofs.CutLemmas.{one_cut_text}
use Rattle.ld_answer.proofs.PlanLemmas.{one_plan_cut}
use Rattle.ld_answer.proofs.StripeLemmas.{one_weights_text}

request_answer : (request : requests.Words) (test : List ℕ) (a b : Answer) → IsAnswerOf request test a → IsAnswerOf request test b → a.file ≡ None → a ≡ b
request_answer (StripeWeights weights position count) test a b ha hb none =
    ha.2 ∙ ap text_alone (one_weights_text weights position count ha.0 hb.0 ha.1 hb.1) ∙ sym hb.2
request_answer (StripeSegment count segment sequence) test a b ha hb none =
    ha.2 ∙ ap text_alone (one_cut_text count segment sequence ha.0 hb.0 ha.1 hb.1) ∙ sym hb.2
request_answer (Plan name segment sequence entries listed) test a b ha hb none =
    ha.text
    ∙ ap (λ (seen : PlanView). text_alone (plan_text seen listed)) (one_plan_cut segment sequence test (entry_limit entries) ha.seen hb.seen ha.plan hb.plan)
    ∙ sym hb.text
request_answer (RehearseTest name iteration journal segment sequence entries) test a b ha hb none = absurd (some_not_none (sym ha.rehearsal.file ∙ none))
request_answer (RehearseWords rate unit duration pre max iteration journal entries) test a b ha hb none = absurd (some_not_none (sym ha.rehearsal.file ∙ none))
request_answer Help test a b ha hb none = ha ∙ sym hb

-- words that write no file have one answer, where the file that they name has these bytes
pub one_text : (ws : List (List ℕ)) (p q : requests.Words) (test : List ℕ) (a b : Answer) → words.Asks ws p → words.Asks ws q →
    IsAnswerOf p test a → IsAnswerOf q test b → a.file ≡ None → a ≡ b
one_text ws p q test a b asks other ha hb none =
    request_answer q test a b (subst (λ r. IsAnswerOf r test a) (asked_once ws p q asks other) ha) hb none
