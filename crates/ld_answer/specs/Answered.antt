-- What words are answered.
use Rattle.std.specs.Prelude.{◌≡◌, ℕ, Bool, List, Option, Some, None}
use Rattle.ld_outside.specs.ShelfView.{ShelfView}
use Rattle.ld_plan.specs.PlanView.{PlanView}
use Rattle.ld_summary.specs.PlanText.{plan_text}
use Rattle.ld_words.specs.RateTest.{rate_test}
use Rattle.ld_words.specs.Words as words
use Rattle.ld_words.specs.declared.words.Words as requests
use Rattle.ld_words.specs.declared.words.Words.TheVariants.{StripeWeights, StripeSegment, Plan, RehearseTest, RehearseWords, Help}
use Rattle.ld_answer.specs.Answer.{text_alone}
use Rattle.ld_answer.specs.Cut.{IsCutText}
use Rattle.ld_answer.specs.Help.{help_text}
use Rattle.ld_answer.specs.Planned.{IsCutPlan}
use Rattle.ld_answer.specs.Rehearsal.{IsRehearsalAnswer}
use Rattle.ld_answer.specs.Stripe.{IsWeightsText}
use Rattle.ld_answer.specs.TestFile.{entry_limit, file_of, HasRead, TestFile}
use Rattle.ld_answer.specs.declared.answer.Answer.{Answer}

-- the answer is a text alone, of which this holds
abbrev pub IsTextAlone : (List ℕ → Type 0) → Answer → Type 0
IsTextAlone P answer = (text : List ℕ) × P text × (answer ≡ text_alone text)

-- the part that words cut from a test has a plan, and the answer is the text of the plan
pub record IsPlanned (segment sequence : Option (List ℕ)) (test : List ℕ) (limit : ℕ) (listed : Bool) (answer : Answer) : Type 0 where
  pub seen : PlanView
  pub plan : IsCutPlan segment sequence test limit seen
  pub text : answer ≡ text_alone (plan_text seen listed)

-- it has a plan, which is rehearsed
pub record IsPlayed (segment sequence : Option (List ℕ)) (test : List ℕ) (limit iteration : ℕ) (journal : List ℕ) (answer : Answer) : Type 0 where
  pub seen : PlanView
  pub plan : IsCutPlan segment sequence test limit seen
  pub rehearsal : IsRehearsalAnswer test seen iteration journal answer

-- the answer that a request has, where these are the bytes of the file that it names
abbrev pub IsAnswerOf : requests.Words → List ℕ → Answer → Type 0
IsAnswerOf (StripeWeights weights position count) test answer = IsTextAlone (IsWeightsText weights position count) answer
IsAnswerOf (StripeSegment count segment sequence) test answer = IsTextAlone (IsCutText count segment sequence) answer
IsAnswerOf (Plan name segment sequence entries listed) test answer =
    IsPlanned segment sequence test (entry_limit entries) listed answer
IsAnswerOf (RehearseTest name iteration journal segment sequence entries) test answer =
    IsPlayed segment sequence test (entry_limit entries) iteration journal answer
IsAnswerOf (RehearseWords rate unit duration pre max iteration journal entries) test answer =
    IsPlayed None None (rate_test rate unit duration pre max) (entry_limit entries) iteration journal answer
IsAnswerOf Help test answer = answer ≡ text_alone help_text

-- the file that a request names, if it names one, was read, and nothing else was done
abbrev pub HasGot : Option TestFile → ShelfView → List ℕ → ShelfView → Type 0
HasGot None old test new = new ≡ old
HasGot (Some file) old test new = HasRead old file.name test new

-- what was read for a request, and the answer that it has with it
pub record IsAnswered (request : requests.Words) (shelf : ShelfView) (answer : Answer) (shelf' : ShelfView) : Type 0 where
  pub test : List ℕ
  pub got : HasGot (file_of request) shelf test shelf'
  pub is : IsAnswerOf request test answer

-- the words ask for something that has this answer
pub record HasAnswer (ws : List (List ℕ)) (shelf : ShelfView) (answer : Answer) (shelf' : ShelfView) : Type 0 where
  pub request : requests.Words
  pub asks : words.Asks ws request
  pub answered : IsAnswered request shelf answer shelf'
