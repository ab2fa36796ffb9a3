-- Refusals: their statuses, and that what is answered isn't refused.
use Rattle.std.proofs.Common.{◌≡◌, ◌≤◌, ◌<◌, ◌⊎◌, ◌∙◌, ℕ, List, inl, inr, length, arith, refl, sym, subst, ap}
use Rattle.std.specs.Prelude.{Option, Some, None}
use Rattle.ld_outside.specs.ShelfView.{FileList, bytes_of}
use Rattle.ld_machine.proofs.ListLemmas.{some_not_none}
use Rattle.ld_options.specs.Document.{IsRefusal}
use Rattle.ld_options.specs.declared.fault.OptionsFault.{OptionsFault}
use Rattle.ld_options.specs.declared.fault.OptionsFault.TheVariants as options
use Rattle.ld_options.proofs.ScenarioLemmas.{apart}
use Rattle.ld_plan.specs.PlanView.{PlanView}
use Rattle.ld_plan.specs.declared.fault.PlanFault.{PlanFault}
use Rattle.ld_plan.specs.declared.fault.PlanFault.TheVariants as plans
use Rattle.ld_segment.specs.declared.fault.SegmentFault.{SegmentFault}
use Rattle.ld_segment.specs.declared.fault.SegmentFault.TheVariants as cuts
use Rattle.ld_stripe.specs.StripeFault as stripe
use Rattle.ld_stripe.specs.declared.fault.StripeFault.{StripeFault}
use Rattle.ld_stripe.specs.declared.fault.StripeFault.TheVariants as stripes
use Rattle.ld_words.specs.RateTest.{rate_test}
use Rattle.ld_words.specs.declared.words.Words as requests
use Rattle.ld_words.specs.declared.words.Words.TheVariants as asked
use Rattle.ld_answer.specs.Answered.{IsAnswerOf}
use Rattle.ld_answer.specs.Cut.{IsCutRefusal}
use Rattle.ld_answer.specs.Planned.{HasNoPlan, IsCutPlan, IsCuttable, IsUncut, RefusesCutTest}
use Rattle.ld_answer.specs.Refusal.{IsUnreadRefusal, RefusesFileAmong}
use Rattle.ld_answer.specs.RefusalLine.{plan_status, segment_status, status_of, stripe_status, test_status}
use Rattle.ld_answer.specs.Stripe.{IsWeightsRefusal}
use Rattle.ld_answer.specs.TestFile.{entry_limit, file_of, most_bytes, TestFile}
use Rattle.ld_answer.specs.declared.answer.Answer.{Answer}
use Rattle.ld_answer.specs.declared.refusal.Refusal.{Refusal}
use Rattle.ld_answer.specs.declared.refusal.Refusal.TheVariants.{Words, Stripe, NoSuchPosition, Segment, NotInSequence, Read, TooLong, Test, Plan, Memory}
use Rattle.ld_answer.proofs.CutLemmas.{cut_memory, cut_not_refused, cut_refused, cut_text_not_refused}
use Rattle.ld_answer.proofs.PlanLemmas.{memory_not_refused, plan_not_refused}
use Rattle.ld_answer.proofs.StripeLemmas.{weights_text_not_refused}

pub some_once : {A : Type 0} (x y : A) → Some x ≡ Some y → x ≡ y
some_once x y e = cc

-- ---- statuses

stripe_status_is : (weights : List ℕ) (f : StripeFault) → stripe.IsRefusal weights f → stripe_status f ≡ 5
stripe_status_is weights stripes.NoWeights refused = refl
stripe_status_is weights stripes.TooMany refused = refl
stripe_status_is weights (stripes.ZeroWeight p) refused = refl
stripe_status_is weights (stripes.PeriodTooLarge n) refused = refl
stripe_status_is weights stripes.Memory refused = absurd refused

segment_status_is : (segment sequence : Option (List ℕ)) (f : SegmentFault) → IsCutRefusal segment sequence (Segment f) → segment_status f ≡ 5
segment_status_is segment sequence (cuts.Number at fault) refused = refl
segment_status_is segment sequence (cuts.BelowZero at) refused = refl
segment_status_is segment sequence (cuts.NotLess at) refused = refl
segment_status_is segment sequence (cuts.AboveOne at) refused = refl
segment_status_is segment sequence (cuts.Gap at) refused = refl
segment_status_is segment sequence cuts.FewPoints refused = refl
segment_status_is segment sequence (cuts.PeriodTooLarge n) refused = refl
segment_status_is segment sequence cuts.TooMany refused = refl
segment_status_is segment sequence cuts.Memory refused = absurd (cut_memory segment sequence refused)

test_status_is : (test : List ℕ) (f : OptionsFault) → IsRefusal test f → test_status f ≡ 5
test_status_is test options.NotJson refused = refl
test_status_is test (options.Missing path) refused = refl
test_status_is test (options.WrongKind path) refused = refl
test_status_is test (options.Unknown path) refused = refl
test_status_is test (options.BadName path) refused = refl
test_status_is test (options.BadExecutor path) refused = refl
test_status_is test (options.Range path) refused = refl
test_status_is test (options.NoStages path) refused = refl
test_status_is test (options.MaxBelowPre path) refused = refl
test_status_is test (options.ScriptUnknown path) refused = refl
test_status_is test (options.Number path fault) refused = refl
test_status_is test options.Memory refused = absurd (memory_not_refused test refused)

weights_status : (weights : List ℕ) (position : ℕ) (r : Refusal) → IsWeightsRefusal weights position r → status_of r ≡ 5
weights_status weights position (Stripe f) refused = stripe_status_is weights f refused
weights_status weights position (NoSuchPosition p) refused = refl
weights_status weights position (Words place) refused = absurd refused
weights_status weights position (Segment f) refused = absurd refused
weights_status weights position NotInSequence refused = absurd refused
weights_status weights position Read refused = absurd refused
weights_status weights position (TooLong place) refused = absurd refused
weights_status weights position (Test f) refused = absurd refused
weights_status weights position (Plan f) refused = absurd refused
weights_status weights position Memory refused = absurd refused

cut_status : (segment sequence : Option (List ℕ)) (r : Refusal) → IsCutRefusal segment sequence r → status_of r ≡ 5
cut_status segment sequence (Segment f) refused = segment_status_is segment sequence f refused
cut_status segment sequence NotInSequence refused = refl
cut_status segment sequence (Words place) refused = absurd refused
cut_status segment sequence (Stripe f) refused = absurd refused
cut_status segment sequence (NoSuchPosition p) refused = absurd refused
cut_status segment sequence Read refused = absurd refused
cut_status segment sequence (TooLong place) refused = absurd refused
cut_status segment sequence (Test f) refused = absurd refused
cut_status segment sequence (Plan f) refused = absurd refused
cut_status segment sequence Memory refused = absurd refused

uncut_status : (segment sequence : Option (List ℕ)) (r : Refusal) → IsUncut segment sequence r → status_of r ≡ 5
uncut_status segment sequence r refused =
    ap status_of refused.1 ∙ segment_status_is segment sequence refused.0 (cut_refused segment sequence refused.0 refused.2)

pub test_refused_status : (segment sequence : Option (List ℕ)) (test : List ℕ) (limit : ℕ) (r : Refusal) →
    RefusesCutTest segment sequence test limit r → status_of r ≡ 5
test_refused_status segment sequence test limit r refused = elim refused.refused.cause as (λ _. status_of r ≡ 5) [
  | inl document ↦ ap status_of document.1 ∙ test_status_is test document.0 document.2
  | inr plan ↦ ap status_of plan.1 ∙ plan_status_is plan.0 plan.2
]
  where
    plan_status_is : (f : PlanFault) → HasNoPlan test limit refused.part refused.points f → plan_status f ≡ 5
    plan_status_is plans.NotInSequence none = refl
    plan_status_is (plans.PeriodTooLarge period) none = refl
    plan_status_is (plans.TooManyArrivals scenario count) none = refl
    plan_status_is (plans.TooManyUsers users) none = refl
    plan_status_is (plans.JournalTooSmall needed most) none = refl
    plan_status_is plans.Memory none = absurd none.refused

-- what is refused before a file is read has the status 5
pub unread_status : (request : requests.Words) (r : Refusal) → IsUnreadRefusal request r → status_of r ≡ 5
unread_status (asked.StripeWeights weights position count) r refused = weights_status weights position r refused
unread_status (asked.StripeSegment count segment sequence) r refused = cut_status segment sequence r refused
unread_status (asked.Plan name segment sequence entries listed) r refused = uncut_status segment sequence r refused
unread_status (asked.RehearseTest name iteration journal segment sequence entries) r refused = uncut_status segment sequence r refused
unread_status (asked.RehearseWords rate unit duration pre max iteration journal entries) r refused = elim refused.cause as (λ _. status_of r ≡ 5) [
  | inl uncut ↦ uncut_status None None r uncut
  | inr test ↦ test_refused_status None None (rate_test rate unit duration pre max) (entry_limit entries) r test
]
unread_status asked.Help r refused = absurd refused

-- ---- what is answered isn't refused

pub uncut_not_cut : (segment sequence : Option (List ℕ)) (r : Refusal) → IsCuttable segment sequence → IsUncut segment sequence r → ⊥
uncut_not_cut segment sequence r cuttable refused = cut_not_refused segment sequence cuttable.from cuttable.to cuttable.points refused.0 cuttable.cut refused.2

pub plan_cuttable : (segment sequence : Option (List ℕ)) (test : List ℕ) (limit : ℕ) (seen : PlanView) →
    IsCutPlan segment sequence test limit seen → IsCuttable segment sequence
plan_cuttable segment sequence test limit seen has = record { from = has.part.from; to = has.part.to; points = has.points; cut = has.cut }

-- a part that has a plan isn't refused
pub planned_not_refused : (segment sequence : Option (List ℕ)) (test : List ℕ) (limit : ℕ) (seen : PlanView) (r : Refusal) →
    IsCutPlan segment sequence test limit seen → RefusesCutTest segment sequence test limit r → ⊥
planned_not_refused segment sequence test limit seen r has refused = elim refused.refused.cause [
  | inl document ↦ apart test has.plan.options document.0 has.plan.options_are document.2
  | inr plan ↦ plan_not_refused segment sequence test limit seen plan.0 has refused.part refused.points refused.cut plan.2
]

-- a request that has an answer isn't refused before a file is read
pub answer_not_unread : (request : requests.Words) (test : List ℕ) (answer : Answer) (r : Refusal) →
    IsAnswerOf request test answer → IsUnreadRefusal request r → ⊥
answer_not_unread (asked.StripeWeights weights position count) test answer r has refused =
    weights_text_not_refused weights position count has.0 r has.1 refused
answer_not_unread (asked.StripeSegment count segment sequence) test answer r has refused =
    cut_text_not_refused count segment sequence has.0 r has.1 refused
answer_not_unread (asked.Plan name segment sequence entries listed) test answer r has refused =
    uncut_not_cut segment sequence r (plan_cuttable segment sequence test (entry_limit entries) has.seen has.plan) refused
answer_not_unread (asked.RehearseTest name iteration journal segment sequence entries) test answer r has refused =
    uncut_not_cut segment sequence r (plan_cuttable segment sequence test (entry_limit entries) has.seen has.plan) refused
answer_not_unread (asked.RehearseWords rate unit duration pre max iteration journal entries) test answer r has refused = elim refused.cause [
  | inl uncut ↦ uncut_not_cut None None r (plan_cuttable None None (rate_test rate unit duration pre max) (entry_limit entries) has.seen has.plan) uncut
  | inr test ↦ planned_not_refused None None (rate_test rate unit duration pre max) (entry_limit entries) has.seen r has.plan test
]
answer_not_unread asked.Help test answer r has refused = refused

record IsPlannedFile (file : TestFile) (test : List ℕ) : Type 0 where
  pub seen : PlanView
  pub plan : IsCutPlan file.segment file.sequence test file.limit seen

-- what is answered for a file has a plan
planned_file : (request : requests.Words) (file : TestFile) (test : List ℕ) (answer : Answer) → file_of request ≡ Some file →
    IsAnswerOf request test answer → IsPlannedFile file test
planned_file (asked.StripeWeights weights position count) file test answer named has = absurd (some_not_none (sym named))
planned_file (asked.StripeSegment count segment sequence) file test answer named has = absurd (some_not_none (sym named))
planned_file (asked.Plan name segment sequence entries listed) file test answer named has = subst (λ (f : TestFile). IsPlannedFile f test) (some_once _ file named) (record { seen = has.seen; plan = has.plan })
planned_file (asked.RehearseTest name iteration journal segment sequence entries) file test answer named has = subst (λ (f : TestFile). IsPlannedFile f test) (some_once _ file named) (record { seen = has.seen; plan = has.plan })
planned_file (asked.RehearseWords rate unit duration pre max iteration journal entries) file test answer named has = absurd (some_not_none (sym named))
planned_file asked.Help file test answer named has = absurd (some_not_none (sym named))

-- a request that has an answer with these bytes isn't refused for a file of them
pub answer_not_among : (request : requests.Words) (file : TestFile) (test : List ℕ) (answer : Answer) (files : FileList) (r : Refusal) →
    file_of request ≡ Some file → IsAnswerOf request test answer → length test ≤ most_bytes → test ≡ bytes_of file.name files →
    RefusesFileAmong files file r → ⊥
answer_not_among request file test answer files r named has short is refused =
    let planned = planned_file request file test answer named has in
    elim refused.cause [
      | inl long ↦ let size : length (bytes_of file.name files) ≤ most_bytes = subst (λ bytes. length bytes ≤ most_bytes) is short in let more = long.1 in omega arith
      | inr bytes ↦ planned_not_refused file.segment file.sequence test file.limit planned.seen r planned.plan
          (subst (λ text. RefusesCutTest file.segment file.sequence text file.limit r) (sym is) bytes.1)
    ]

-- the refusals of a file among the same files have one status
pub among_once : (files : FileList) (file : TestFile) (r s : Refusal) → RefusesFileAmong files file r → RefusesFileAmong files file s →
    status_of r ≡ status_of s
among_once files file r s a b = same a.cause b.cause
  where
    bytes : List ℕ
    bytes = bytes_of file.name files

    same : ((r ≡ TooLong 1) × (most_bytes < length (bytes_of file.name files)))
        ⊎ ((length (bytes_of file.name files) ≤ most_bytes) × RefusesCutTest file.segment file.sequence (bytes_of file.name files) file.limit r) →
        ((s ≡ TooLong 1) × (most_bytes < length (bytes_of file.name files)))
        ⊎ ((length (bytes_of file.name files) ≤ most_bytes) × RefusesCutTest file.segment file.sequence (bytes_of file.name files) file.limit s) →
        status_of r ≡ status_of s
    same (inl x) (inl y) = ap status_of (x.0 ∙ sym y.0)
    same (inl x) (inr y) = let long = x.1 in let short = y.0 in absurd (omega arith)
    same (inr x) (inl y) = let long = y.1 in let short = x.0 in absurd (omega arith)
    same (inr x) (inr y) = test_refused_status _ _ _ _ r x.1 ∙ sym (test_refused_status _ _ _ _ s y.1)
