-- What becomes of a request, put together from what was read, planned and rehearsed.
use Rattle.std.proofs.Common.{◌≡◌, ◌≢◌, ◌≤◌, ◌⊎◌, ◌++◌, ◌∷◌, [], ℕ, Bool, true, false, List, inl, inr, arith, refl, subst, sym}
use Rattle.std.specs.Prelude.{MatchResult, Option, None, Some, Result, Ok, Err}
use Rattle.std.specs.Result.{IsErr, IsErrAnd}
use Rattle.std.specs.Str.{IsUtf8}
use Rattle.ld_num.specs.declared.fraction.Frac.{Frac}
use Rattle.ld_outside.specs.Shelf.{AddsCall, CountsReadFault, IsRead}
use Rattle.ld_outside.specs.ShelfView.{Kept, ShelfView, call_of}
use Rattle.ld_outside.specs.declared.shelf.ShelfFault.{ShelfFault}
use Rattle.ld_outside.specs.declared.shelf.ShelfFault.TheVariants as shelves
use Rattle.ld_outside.specs.declared.shelf_call.ShelfCallKind.TheVariants as calls
use Rattle.ld_plan.specs.PlanView.{PlanView}
use Rattle.ld_segment.specs.declared.fault.SegmentFault.{SegmentFault}
use Rattle.ld_segment.specs.declared.fault.SegmentFault.TheVariants as cuts
use Rattle.ld_segment.specs.declared.segment.Segment.{Segment as Part}
use Rattle.ld_summary.specs.PlanText.{plan_text}
use Rattle.ld_words.specs.RateTest.{rate_test}
use Rattle.ld_words.specs.declared.words.Words as requests
use Rattle.ld_words.specs.declared.words.Words.TheVariants as asked
use Rattle.ld_answer.specs.Answer.{text_alone, HasUtf8Name}
use Rattle.ld_answer.specs.Answered.{IsAnswerOf, IsAnswered}
use Rattle.ld_answer.specs.Cut.{IsCut, RefusesCut}
use Rattle.ld_answer.specs.Faults.{of_segment}
use Rattle.ld_answer.specs.Outcome.{IsBroken, IsFileBroken, IsFileOutcome, IsOutcome}
use Rattle.ld_answer.specs.Planned.{IsCutPlan, IsCuttable, IsTestPlan, RefusesTest, RefusesWhole}
use Rattle.ld_answer.specs.Refusal.{IsUnreadRefusal, RefusesNamed}
use Rattle.ld_answer.specs.Rehearsal.{IsRehearsalAnswer}
use Rattle.ld_answer.specs.Request.{IsAsked}
use Rattle.ld_answer.specs.TestFile.{entry_limit, file_of, most_bytes, HasRead, IsReadFault, OnlyReads, TestFile}
use Rattle.ld_answer.specs.declared.answer.Answer.{Answer}
use Rattle.ld_answer.specs.declared.refusal.Refusal.{Refusal}
use Rattle.ld_answer.specs.declared.refusal.Refusal.TheVariants.{Memory}
use Rattle.ld_answer.specs.declared.test_file.PlannedTest.{PlannedTest}
use Rattle.ld_answer.proofs.FaultLemmas.{segment_fault}
use Rattle.ld_answer.proofs.ShelfLemmas.{became_nothing, became_so}

-- ---- nothing but a read was done

-- nothing was done at all
pub only_same : (name : List ℕ) (shelf : ShelfView) → OnlyReads name shelf shelf
only_same name shelf = record {
  files = became_nothing shelf shelf _ refl (λ x other. refl);
  calls = became_nothing shelf shelf _ refl (λ x. inl refl);
  writes = refl;
  reads = omega arith;
}

-- a read was
pub only_read : (old : ShelfView) (name into : List ℕ) (cap : ℕ) (result : Result (Unit {0}) ShelfFault) (new : ShelfView) →
    IsRead old name cap into result new → OnlyReads name old new
only_read old name into cap result new is = record {
  files = is.kept;
  calls = became_so old new _ _ is.calls (λ before now. added result before now);
  writes = is.writes;
  reads = counted result is.reads;
}
  where
    added : (r : Result (Unit {0}) ShelfFault) (before now : Kept) → AddsCall calls.Read name r before.calls now.calls →
        (now.calls ≡ before.calls) ⊎ ((done : Bool) × (now.calls ≡ before.calls ++ call_of calls.Read name done ∷ []))
    added (Ok x) before now adds = inr (true, adds)
    added (Err shelves.Failed) before now adds = inr (false, adds)
    added (Err shelves.TooLong) before now adds = inr (false, adds)
    added (Err shelves.Memory) before now (inl adds) = inr (false, adds)
    added (Err shelves.Memory) before now (inr same) = inl same

    counted : (r : Result (Unit {0}) ShelfFault) → CountsReadFault old.read_faults r new.read_faults → old.read_faults ≤ new.read_faults
    counted (Ok x) same = omega arith
    counted (Err shelves.Failed) rose = rose.0
    counted (Err shelves.TooLong) same = omega arith
    counted (Err shelves.Memory) same = omega arith

-- a read that failed left nothing
pub not_read : (old : ShelfView) (name into : List ℕ) (cap : ℕ) (fault : ShelfFault) (new : ShelfView) →
    IsRead {T = Unit {0}} old name cap into (Err fault) new → IsRead {T = Unit {0}} old name cap [] (Err fault) new
not_read old name into cap fault new is = subst (λ (bytes : List ℕ). IsRead {T = Unit {0}} old name cap bytes (Err fault) new) is.empty is

-- ---- files of tests

-- no part can be cut
pub cut_broken : (file : TestFile) (shelf : ShelfView) (f : SegmentFault) → (f ≢ cuts.Memory → RefusesCut file.segment file.sequence f) →
    IsFileBroken file shelf (of_segment f) shelf
cut_broken file shelf f refused = record {
  refused = segment_fault (λ r. RefusesNamed file shelf r shelf) f (λ other. record { cause = inl ((f, refl, refused other), refl) });
  kept = only_same file.name shelf;
  reads = λ other. refl;
}

-- the file wasn't read
pub read_broken : (file : TestFile) (old : ShelfView) (r : Refusal) (new : ShelfView) → IsCuttable file.segment file.sequence →
    IsReadFault old file.name r new → IsFileBroken file old r new
read_broken file old r new cuttable (inl failed) = record {
  refused = λ other. record { cause = inr (record { cuttable = cuttable; cause = inl (inl failed) }) };
  kept = only_read old file.name [] most_bytes _ new failed.1;
  reads = λ other. absurd (other failed.0);
}
read_broken file old r new cuttable (inr (inl long)) = record {
  refused = λ other. record { cause = inr (record { cuttable = cuttable; cause = inl (inr long) }) };
  kept = only_read old file.name [] most_bytes _ new long.1;
  reads = λ other. long.1.reads;
}
read_broken file old r new cuttable (inr (inr lacked)) = record {
  refused = λ other. absurd (other lacked.0);
  kept = only_read old file.name [] most_bytes _ new lacked.1;
  reads = λ other. lacked.1.reads;
}

-- what was read has no plan
pub plan_broken : (file : TestFile) (old : ShelfView) (r : Refusal) (new : ShelfView) (test : List ℕ) (part : Part) (points : List Frac) →
    IsCut file.segment file.sequence part.from part.to points → HasRead old file.name test new →
    (r ≢ Memory → RefusesTest test file.limit part points r) → IsFileBroken file old r new
plan_broken file old r new test part points cut read refused = record {
  refused = λ other. record {
    cause = inr (record {
      cuttable = record { from = part.from; to = part.to; points = points; cut = cut };
      cause = inr (test, read, record { part = part; points = points; cut = cut; refused = refused other });
    });
  };
  kept = only_read old file.name test most_bytes _ new read;
  reads = λ other. read.reads;
}

-- the same, of what the calls were given
pub plan_broken_at : (file : TestFile) (old : ShelfView) (r : Refusal) (new : ShelfView) (test given : List ℕ) (limit : ℕ) (part : Part) (points : List Frac) →
    IsCut file.segment file.sequence part.from part.to points → HasRead old file.name test new → given ≡ test → limit ≡ file.limit →
    (r ≢ Memory → RefusesTest given limit part points r) → IsFileBroken file old r new
plan_broken_at file old r new test given limit part points cut read same most refused =
    plan_broken file old r new test part points cut read
    (λ other. subst (λ (text : List ℕ). RefusesTest text file.limit part points r) same (subst (λ (n : ℕ). RefusesTest given n part points r) most (refused other)))

-- what was cut and planned
pub file_planned : (segment sequence : Option (List ℕ)) (test given : List ℕ) (most limit : ℕ) (part : Part) (points : List Frac) (seen : PlanView) →
    given ≡ test → limit ≡ most → IsCut segment sequence part.from part.to points → IsTestPlan given limit part points seen →
    IsCutPlan segment sequence test most seen
file_planned segment sequence test given most limit part points seen same is cut plan = record {
  part = part;
  points = points;
  cut = cut;
  plan = subst (λ (text : List ℕ). IsTestPlan text most part points seen) same (subst (λ (n : ℕ). IsTestPlan given n part points seen) is plan);
}

-- ---- tests from words

pub whole_planned : (test given : List ℕ) (entries : Option ℕ) (limit : ℕ) (part : Part) (points : List Frac) (seen : PlanView) →
    given ≡ test → limit ≡ entry_limit entries → IsCut None None part.from part.to points → IsTestPlan given limit part points seen →
    IsCutPlan None None test (entry_limit entries) seen
whole_planned test given entries limit part points seen = file_planned None None test given (entry_limit entries) limit part points seen

pub whole_refused : (test given : List ℕ) (entries : Option ℕ) (limit : ℕ) (part : Part) (points : List Frac) (r : Refusal) →
    given ≡ test → limit ≡ entry_limit entries → IsCut None None part.from part.to points → (r ≢ Memory → RefusesTest given limit part points r) →
    r ≢ Memory → RefusesWhole test (entry_limit entries) r
whole_refused test given entries limit part points r same is cut refused other = record {
  cause = inr (record {
    part = part;
    points = points;
    cut = cut;
    refused = subst (λ (text : List ℕ). RefusesTest text (entry_limit entries) part points r) same
        (subst (λ (n : ℕ). RefusesTest given n part points r) is (refused other));
  });
}

-- ---- requests

-- a request without a file is refused
pub unread_broken : (request : requests.Words) (shelf : ShelfView) (r : Refusal) → file_of request ≡ None → (r ≢ Memory → IsUnreadRefusal request r) →
    IsBroken request shelf r shelf
unread_broken request shelf r none refused = record {
  refused = λ other. rw none (refused other, refl);
  kept = rw none refl;
  reads = λ other. refl;
}

-- one with a file is
pub file_broken : (request : requests.Words) (file : TestFile) (old : ShelfView) (r : Refusal) (new : ShelfView) → file_of request ≡ Some file →
    IsFileBroken file old r new → IsBroken request old r new
file_broken request file old r new some broken = record {
  refused = λ other. rw some (let refused = broken.refused in refused other);
  kept = rw some broken.kept;
  reads = broken.reads;
}

-- memory lacked behind the reading of a file
pub file_lacked : (request : requests.Words) (file : TestFile) (old : ShelfView) (r : Refusal) (new : ShelfView) (test : List ℕ) → file_of request ≡ Some file →
    HasRead old file.name test new → r ≡ Memory → IsBroken request old r new
file_lacked request file old r new test some read lacked =
    file_broken request file old r new some (record {
      refused = λ other. absurd (other lacked);
      kept = only_read old file.name test most_bytes _ new read;
      reads = λ other. read.reads;
    })

-- a text alone answers a request without a file
pub text_answered : (request : requests.Words) (shelf : ShelfView) (answer : Answer) (text : List ℕ) → file_of request ≡ None → answer ≡ text_alone text →
    IsAnswerOf request [] answer → IsAnswered request shelf answer shelf × HasUtf8Name answer
text_answered request shelf answer text none alone is = (
  record { test = []; got = rw none refl; is = is },
  subst HasUtf8Name (sym alone) tt,
)

-- the plan of a file is the answer
pub plan_outcome : (name : List ℕ) (segment sequence : Option (List ℕ)) (entries : Option ℕ) (listed : Bool) (old new : ShelfView) (planned : PlannedTest)
    (result : Result Answer Refusal) →
    IsFileOutcome (record { name = name; segment = segment; sequence = sequence; limit = entry_limit entries }) (Ok planned) old new →
    MatchResult result (λ answer. answer ≡ text_alone (plan_text planned.plan listed)) (λ r. r ≡ Memory) →
    IsOutcome (asked.Plan name segment sequence entries listed) result old new
plan_outcome name segment sequence entries listed old new planned (Ok answer) has is = (
  record { test = planned.text.items; got = has.0; is = record { seen = planned.plan; plan = has.1; text = is } },
  subst HasUtf8Name (sym is) tt,
)
plan_outcome name segment sequence entries listed old new planned (Err r) has is =
    file_lacked (asked.Plan name segment sequence entries listed) _ old r new planned.text.items refl has.0 is

-- the rehearsal of a file is
pub rehearsal_outcome : (name journal : List ℕ) (iteration : ℕ) (segment sequence : Option (List ℕ)) (entries : Option ℕ) (old new : ShelfView) (planned : PlannedTest)
    (result : Result Answer Refusal) → IsUtf8 journal →
    IsFileOutcome (record { name = name; segment = segment; sequence = sequence; limit = entry_limit entries }) (Ok planned) old new →
    MatchResult result (IsRehearsalAnswer planned.text.items planned.plan iteration journal) (λ r. r ≡ Memory) →
    IsOutcome (asked.RehearseTest name iteration journal segment sequence entries) result old new
rehearsal_outcome name journal iteration segment sequence entries old new planned (Ok answer) utf8 has is = (
  record { test = planned.text.items; got = has.0; is = record { seen = planned.plan; plan = has.1; rehearsal = is } },
  rw is.file utf8,
)
rehearsal_outcome name journal iteration segment sequence entries old new planned (Err r) utf8 has is =
    file_lacked (asked.RehearseTest name iteration journal segment sequence entries) _ old r new planned.text.items refl has.0 is

-- the rehearsal of a test from words is
pub words_outcome : (rate unit duration pre max iteration : ℕ) (journal : List ℕ) (entries : Option ℕ) (shelf : ShelfView) (planned : PlannedTest)
    (result : Result Answer Refusal) → IsUtf8 journal → planned.text.items ≡ rate_test rate unit duration pre max →
    IsCutPlan None None (rate_test rate unit duration pre max) (entry_limit entries) planned.plan →
    MatchResult result (IsRehearsalAnswer planned.text.items planned.plan iteration journal) (λ r. r ≡ Memory) →
    IsOutcome (asked.RehearseWords rate unit duration pre max iteration journal entries) result shelf shelf
words_outcome rate unit duration pre max iteration journal entries shelf planned (Ok answer) utf8 text has is = (
  record {
    test = [];
    got = refl;
    is = record {
      seen = planned.plan;
      plan = has;
      rehearsal = subst (λ (test : List ℕ). IsRehearsalAnswer test planned.plan iteration journal answer) text is;
    };
  },
  rw is.file utf8,
)
words_outcome rate unit duration pre max iteration journal entries shelf planned (Err r) utf8 text has is =
    unread_broken (asked.RehearseWords rate unit duration pre max iteration journal entries) shelf r refl (λ other. absurd (other is))

-- ---- what is handed on

pub handed_file : (file : TestFile) (result : Result PlannedTest Refusal) (r : Refusal) (old new : ShelfView) →
    IsErr result × IsErrAnd result (λ s. s ≡ r) → IsFileBroken file old r new → IsFileOutcome file result old new
handed_file file (Ok x) r old new is broken = absurd (let e = is.0 in cc)
handed_file file (Err s) r old new is broken = subst (λ t. IsFileBroken file old t new) (sym is.1) broken

pub handed_request : (request : requests.Words) (result : Result Answer Refusal) (r : Refusal) (old new : ShelfView) →
    IsErr result × IsErrAnd result (λ s. s ≡ r) → IsBroken request old r new → IsOutcome request result old new
handed_request request (Ok x) r old new is broken = absurd (let e = is.0 in cc)
handed_request request (Err s) r old new is broken = subst (λ t. IsBroken request old t new) (sym is.1) broken

-- ---- what a request is

pub as_request : (request is : requests.Words) (result : Result Answer Refusal) (old new : ShelfView) → request ≡ is → IsOutcome is result old new →
    IsOutcome request result old new
as_request request is result old new same outcome = subst (λ (q : requests.Words). IsOutcome q result old new) (sym same) outcome

-- the journal's name of a request
pub test_journal : (request : requests.Words) (test : List ℕ) (iteration : ℕ) (journal : List ℕ) (segment sequence : Option (List ℕ)) (entries : Option ℕ) →
    request ≡ asked.RehearseTest test iteration journal segment sequence entries → IsAsked request → IsUtf8 journal
test_journal request test iteration journal segment sequence entries is holds = (subst IsAsked is holds).2.named

pub words_journal : (request : requests.Words) (rate unit duration pre max iteration : ℕ) (journal : List ℕ) (entries : Option ℕ) →
    request ≡ asked.RehearseWords rate unit duration pre max iteration journal entries → IsAsked request → IsUtf8 journal
words_journal request rate unit duration pre max iteration journal entries is holds = (subst IsAsked is holds).1.named
