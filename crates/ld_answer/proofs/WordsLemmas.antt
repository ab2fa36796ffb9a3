-- How words are refused: as what, with which status, and among which files.
use Rattle.std.proofs.Common.{◌≡◌, ◌≤◌, ◌⊎◌, ◌∙◌, ℕ, List, inl, inr, arith, refl, sym, subst, ap, length}
use Rattle.std.specs.Prelude.{Option, Some, None}
use Rattle.ld_outside.specs.SinkView.{Rose}
use Rattle.ld_outside.specs.ShelfView.{Became, FileList, Kept, ShelfView, bytes_of}
use Rattle.ld_machine.proofs.ListLemmas.{some_not_none}
use Rattle.ld_words.specs.Words as words
use Rattle.ld_words.specs.declared.fault.WordsFault.TheVariants.{Refused}
use Rattle.ld_words.specs.declared.words.Words as requests
use Rattle.ld_words.specs.declared.words.Words.TheVariants as asked
use Rattle.ld_words.proofs.ReadingLemmas.{asked_not_refused, asked_once}
use Rattle.ld_answer.specs.Answered.{HasAnswer, HasGot, IsAnswerOf}
use Rattle.ld_answer.specs.Planned.{IsCuttable, IsUncut, RefusesCutTest}
use Rattle.ld_answer.specs.Refusal.{IsBytesRefusal, IsFileRefusal, IsRefused, IsRefusedAmong, IsRefusedUnread, IsRefusalFor, IsRefusalOf, IsUnreadRefusal, RefusesFile, RefusesFileAmong}
use Rattle.ld_answer.specs.RefusalLine.{IsRefusalStatus, status_of}
use Rattle.ld_answer.specs.TestFile.{file_of, most_bytes, TestFile}
use Rattle.ld_answer.specs.declared.answer.Answer.{Answer}
use Rattle.ld_answer.specs.declared.refusal.Refusal.{Refusal}
use Rattle.ld_answer.specs.declared.refusal.Refusal.TheVariants as refusals
use Rattle.ld_answer.proofs.RefusalLemmas.{among_once, answer_not_among, answer_not_unread, some_once, test_refused_status, uncut_not_cut, unread_status}
use Rattle.ld_answer.proofs.ShelfLemmas.{became_nothing, became_so}

-- ---- words that have an answer aren't refused

abbrev Anything : Kept → Kept → Type 0
Anything before now = Unit {0}

same_request : (ws : List (List ℕ)) (p q : requests.Words) (P : requests.Words → Type 0) → words.Asks ws p → words.Asks ws q → P p → P q
same_request ws p q P a b = subst P (asked_once ws p q a b)

-- words that have an answer aren't refused before a file is read
pub answered_not_unread : (ws : List (List ℕ)) (shelf read : ShelfView) (answer : Answer) (r : Refusal) →
    HasAnswer ws shelf answer read → IsRefusedUnread ws r → ⊥
answered_not_unread ws shelf read answer r has refused = elim refused.cause [
  | inl of_words ↦ asked_not_refused ws has.request (Refused of_words.0) has.asks of_words.2
  | inr of_names ↦ answer_not_unread of_names.0 has.answered.test answer r
      (same_request ws has.request of_names.0 (λ q. IsAnswerOf q has.answered.test answer) has.asks of_names.1 has.answered.is) of_names.2
]

-- nor are they for the file that they name, among the files that are told
pub answered_not_among : (ws : List (List ℕ)) (shelf read : ShelfView) (answer : Answer) → HasAnswer ws shelf answer read →
    Became shelf (λ before now. (r : Refusal) → IsRefusedAmong before.files ws r → ⊥) read
answered_not_among ws shelf read answer has = go (file_of has.request) refl has.answered.got
  where
    named : (before : Kept) (r : Refusal) (refused : IsRefusedAmong before.files ws r) → file_of has.request ≡ Some refused.file
    named before r refused = same_request ws refused.request has.request (λ q. file_of q ≡ Some refused.file) refused.asks has.asks refused.file_is

    go : (o : Option TestFile) → file_of has.request ≡ o → HasGot o shelf has.answered.test read →
        Became shelf (λ before now. (r : Refusal) → IsRefusedAmong before.files ws r → ⊥) read
    go None none got = became_nothing shelf read _ got (λ before r refused. absurd (some_not_none (sym (named before r refused) ∙ none)))
    go (Some file) some got = became_so shelf read _ _ got.whole (λ before now bytes r refused.
        let is = named before r refused in
        let same : Some file ≡ Some refused.file = sym some ∙ is in
        answer_not_among has.request refused.file has.answered.test answer before.files r is has.answered.is got.within
        (subst (λ (f : TestFile). has.answered.test ≡ bytes_of f.name before.files) (let e : file ≡ refused.file = cc in e) bytes) refused.refused)

-- ---- refusals of words

-- refusals before a file is read have one status
pub unread_once : (ws : List (List ℕ)) (r s : Refusal) → IsRefusedUnread ws r → IsRefusedUnread ws s → status_of r ≡ status_of s
unread_once ws r s a b = same a.cause b.cause
  where
    same : ((place : ℕ) × (r ≡ refusals.Words place) × words.IsRefused ws (Refused place)) ⊎ ((q : requests.Words) × words.Asks ws q × IsUnreadRefusal q r) →
        ((place : ℕ) × (s ≡ refusals.Words place) × words.IsRefused ws (Refused place)) ⊎ ((q : requests.Words) × words.Asks ws q × IsUnreadRefusal q s) →
        status_of r ≡ status_of s
    same (inl x) (inl y) = ap status_of x.1 ∙ sym (ap status_of y.1)
    same (inl x) (inr y) = absurd (asked_not_refused ws y.0 (Refused x.0) y.1 x.2)
    same (inr x) (inl y) = absurd (asked_not_refused ws x.0 (Refused y.0) x.1 y.2)
    same (inr x) (inr y) = unread_status x.0 r x.2 ∙ sym (unread_status y.0 s y.2)

-- what no part can be cut from is refused before its file is read
uncut_of_file : (request : requests.Words) (file : TestFile) (r : Refusal) → file_of request ≡ Some file → IsUnreadRefusal request r →
    IsUncut file.segment file.sequence r
uncut_of_file (asked.StripeWeights weights position count) file r named refused = absurd (some_not_none (sym named))
uncut_of_file (asked.StripeSegment count segment sequence) file r named refused = absurd (some_not_none (sym named))
uncut_of_file (asked.Plan name segment sequence entries listed) file r named refused =
    subst (λ (f : TestFile). IsUncut f.segment f.sequence r) (some_once _ file named) refused
uncut_of_file (asked.RehearseTest name iteration journal segment sequence entries) file r named refused =
    subst (λ (f : TestFile). IsUncut f.segment f.sequence r) (some_once _ file named) refused
uncut_of_file (asked.RehearseWords rate unit duration pre max iteration journal entries) file r named refused = absurd (some_not_none (sym named))
uncut_of_file asked.Help file r named refused = absurd (some_not_none (sym named))

unread_of_uncut : (request : requests.Words) (file : TestFile) (r : Refusal) → file_of request ≡ Some file → IsUncut file.segment file.sequence r →
    IsUnreadRefusal request r
unread_of_uncut (asked.StripeWeights weights position count) file r named refused = absurd (some_not_none (sym named))
unread_of_uncut (asked.StripeSegment count segment sequence) file r named refused = absurd (some_not_none (sym named))
unread_of_uncut (asked.Plan name segment sequence entries listed) file r named refused =
    subst (λ (f : TestFile). IsUncut f.segment f.sequence r) (sym (some_once _ file named)) refused
unread_of_uncut (asked.RehearseTest name iteration journal segment sequence entries) file r named refused =
    subst (λ (f : TestFile). IsUncut f.segment f.sequence r) (sym (some_once _ file named)) refused
unread_of_uncut (asked.RehearseWords rate unit duration pre max iteration journal entries) file r named refused = absurd (some_not_none (sym named))
unread_of_uncut asked.Help file r named refused = absurd (some_not_none (sym named))

-- words that ask for a file
pub record AskForFile (ws : List (List ℕ)) (file : TestFile) : Type 0 where
  pub request : requests.Words
  pub asks : words.Asks ws request
  pub file_is : file_of request ≡ Some file

one_file : (ws : List (List ℕ)) (file other : TestFile) → AskForFile ws file → AskForFile ws other → file ≡ other
one_file ws file other a b =
    some_once file other
    (sym a.file_is ∙ ap (λ (q : requests.Words). file_of q) (asked_once ws a.request b.request a.asks b.asks) ∙ b.file_is)

among_for_file : (files : FileList) (ws : List (List ℕ)) (r : Refusal) (refused : IsRefusedAmong files ws r) → AskForFile ws refused.file
among_for_file files ws r refused = record { request = refused.request; asks = refused.asks; file_is = refused.file_is }

-- a file of which a part can be cut isn't refused before it is read
cuttable_not_unread : (ws : List (List ℕ)) (file : TestFile) (r : Refusal) → AskForFile ws file → IsCuttable file.segment file.sequence →
    IsRefusedUnread ws r → ⊥
cuttable_not_unread ws file r asks cuttable refused = elim refused.cause [
  | inl of_words ↦ asked_not_refused ws asks.request (Refused of_words.0) asks.asks of_words.2
  | inr of_names ↦
      let unread = same_request ws of_names.0 asks.request (λ q. IsUnreadRefusal q r) of_names.1 asks.asks of_names.2 in
      uncut_not_cut file.segment file.sequence r cuttable (uncut_of_file asks.request file r asks.file_is unread)
]

-- the refusals of words for the file that they name have one status, among the same files
pub among_words_once : (files : FileList) (ws : List (List ℕ)) (r s : Refusal) → IsRefusedAmong files ws r → IsRefusedAmong files ws s →
    status_of r ≡ status_of s
among_words_once files ws r s a b =
    let same = one_file ws a.file b.file (among_for_file files ws r a) (among_for_file files ws s b) in
    among_once files b.file r s (subst (λ f. RefusesFileAmong files f r) same a.refused) b.refused

-- and there are none of them where the words are refused before a file is read
pub unread_not_among : (files : FileList) (ws : List (List ℕ)) (r s : Refusal) → IsRefusedUnread ws r → IsRefusedAmong files ws s → ⊥
unread_not_among files ws r s a b = cuttable_not_unread ws b.file r (among_for_file files ws s b) b.refused.cuttable a

-- ---- how words are refused

-- before a file is read, or for the file
pub record IsRefusedHow (ws : List (List ℕ)) (old : ShelfView) (r : Refusal) (new : ShelfView) : Type 0 where
  pub how : (IsRefusedUnread ws r × (new ≡ old)) ⊎ ((file : TestFile) × AskForFile ws file × RefusesFile file old r new)

pub refused_how : (ws : List (List ℕ)) (old : ShelfView) (r : Refusal) (new : ShelfView) → IsRefused ws old r new → IsRefusedHow ws old r new
refused_how ws old r new refused = step refused.cause
  where
    unread : (q : requests.Words) → words.Asks ws q → IsUnreadRefusal q r → IsRefusedUnread ws r
    unread q asks is = record { cause = inr (q, asks, is) }

    go : (q : requests.Words) → words.Asks ws q → (o : Option TestFile) → file_of q ≡ o →
        IsRefusalFor o q old r new → IsRefusedHow ws old r new
    go q asks None is cause = record { how = inl (unread q asks cause.0, cause.1) }
    go q asks (Some file) is named = elim named.cause as (λ _. IsRefusedHow ws old r new) [
      | inl uncut ↦ record { how = inl (unread q asks (unread_of_uncut q file r is uncut.0), uncut.1) }
      | inr of_file ↦ record { how = inr (file, record { request = q; asks = asks; file_is = is }, of_file) }
    ]

    step : ((place : ℕ) × (r ≡ refusals.Words place) × words.IsRefused ws (Refused place) × (new ≡ old))
        ⊎ ((q : requests.Words) × words.Asks ws q × IsRefusalOf q old r new) → IsRefusedHow ws old r new
    step (inl of_words) = record { how = inl (record { cause = inl (of_words.0, of_words.1, of_words.2) }, of_words.3) }
    step (inr of_names) = go of_names.0 of_names.1 (file_of of_names.0) refl of_names.2

unread_status_is : (ws : List (List ℕ)) (r : Refusal) → IsRefusedUnread ws r → IsRefusalStatus (status_of r)
unread_status_is ws r refused = elim refused.cause as (λ _. IsRefusalStatus (status_of r)) [
  | inl of_words ↦ inl (ap status_of of_words.1)
  | inr of_names ↦ inr (inr (inl (unread_status of_names.0 r of_names.2)))
]

file_status : (file : TestFile) (old : ShelfView) (r : Refusal) (new : ShelfView) → RefusesFile file old r new → IsRefusalStatus (status_of r)
file_status file old r new refused = elim refused.cause as (λ _. IsRefusalStatus (status_of r)) [
  | inl of_file ↦ elim of_file as (λ _. IsRefusalStatus (status_of r)) [
    | inl failed ↦ inr (inl (ap status_of failed.0))
    | inr long ↦ inr (inr (inr (ap status_of long.0)))
  ]
  | inr bytes ↦ inr (inr (inl (test_refused_status _ _ _ _ r bytes.2)))
]

-- a refusal has one of the statuses of refusals
pub refused_status : (ws : List (List ℕ)) (old : ShelfView) (r : Refusal) (new : ShelfView) → IsRefusedHow ws old r new → IsRefusalStatus (status_of r)
refused_status ws old r new refused = elim refused.how as (λ _. IsRefusalStatus (status_of r)) [
  | inl unread ↦ unread_status_is ws r unread.0
  | inr of_file ↦ file_status of_file.0 old r new of_file.2
]

-- it has the status of each refusal before a file is read
pub refused_unread : (ws : List (List ℕ)) (old : ShelfView) (r : Refusal) (new : ShelfView) (s : Refusal) → IsRefusedHow ws old r new →
    IsRefusedUnread ws s → status_of r ≡ status_of s
refused_unread ws old r new s refused unread = elim refused.how as (λ _. status_of r ≡ status_of s) [
  | inl is ↦ unread_once ws r s is.0 unread
  | inr of_file ↦ absurd (cuttable_not_unread ws of_file.0 s of_file.1 of_file.2.cuttable unread)
]

-- the refusals of a file, where it was read
file_among : (ws : List (List ℕ)) (file : TestFile) (old : ShelfView) (r : Refusal) (new : ShelfView) → AskForFile ws file → RefusesFile file old r new →
    Became old (λ before now. (s : Refusal) → IsRefusedAmong before.files ws s → (status_of r ≡ status_of s) ⊎ (status_of r ≡ 3)) new
file_among ws file old r new asks refused = step refused.cause
  where
    P : Kept → Kept → Type 0
    P before now = (s : Refusal) → IsRefusedAmong before.files ws s → (status_of r ≡ status_of s) ⊎ (status_of r ≡ 3)

    among : (before : Kept) (s : Refusal) → IsRefusedAmong before.files ws s → RefusesFileAmong before.files file s
    among before s is = subst (λ f. RefusesFileAmong before.files f s) (one_file ws is.file file (among_for_file before.files ws s is) asks) is.refused

    step : IsFileRefusal old file.name r new ⊎ IsBytesRefusal old file r new → Became old P new
    step (inl (inl failed)) = became_so old new _ P failed.1.kept (λ before now stay s is. inr (ap status_of failed.0))
    step (inl (inr long)) = became_so old new _ P (long.1.longer refl) (λ before now more s is.
        inl (among_once before.files file r s (record { cuttable = refused.cuttable; cause = inl (long.0, more) }) (among before s is)))
    step (inr bytes) = became_so old new _ P bytes.1.whole (λ before now whole s is.
        inl (among_once before.files file r s
        (record {
          cuttable = refused.cuttable;
          cause = inr (
            subst (λ (text : List ℕ). length text ≤ most_bytes) whole bytes.1.within,
            subst (λ (text : List ℕ). RefusesCutTest file.segment file.sequence text file.limit r) whole bytes.2,
          );
        })
        (among before s is)))

-- it has the status of each refusal of the file that the words name, or the file wasn't read
pub refused_among : (ws : List (List ℕ)) (old : ShelfView) (r : Refusal) (new : ShelfView) → IsRefusedHow ws old r new →
    Became old (λ before now. (s : Refusal) → IsRefusedAmong before.files ws s → (status_of r ≡ status_of s) ⊎ (status_of r ≡ 3)) new
refused_among ws old r new refused = elim refused.how as (λ _. Became old (λ before now. (s : Refusal) → IsRefusedAmong before.files ws s → (status_of r ≡ status_of s) ⊎ (status_of r ≡ 3)) new) [
  | inl unread ↦ became_nothing old new _ unread.1 (λ before s is. absurd (unread_not_among before.files ws r s unread.0 is))
  | inr of_file ↦ file_among ws of_file.0 old r new of_file.1 of_file.2
]

unread_not_three : (ws : List (List ℕ)) (r : Refusal) → IsRefusedUnread ws r → status_of r ≡ 3 → ⊥
unread_not_three ws r refused three = elim refused.cause [
  | inl of_words ↦ let two = ap status_of of_words.1 in omega arith
  | inr of_names ↦ let five = unread_status of_names.0 r of_names.2 in omega arith
]

-- status 3 says that a fault of reading was counted
pub read_rose : (ws : List (List ℕ)) (old : ShelfView) (r : Refusal) (new : ShelfView) → IsRefusedHow ws old r new → status_of r ≡ 3 →
    Rose old.read_faults new.read_faults
read_rose ws old r new refused three = step refused.how
  where
    step : (IsRefusedUnread ws r × (new ≡ old)) ⊎ ((file : TestFile) × AskForFile ws file × RefusesFile file old r new) → Rose old.read_faults new.read_faults
    step (inl unread) = absurd (unread_not_three ws r unread.0 three)
    step (inr of_file) = elim of_file.2.cause as (λ _. Rose old.read_faults new.read_faults) [
      | inl named ↦ elim named as (λ _. Rose old.read_faults new.read_faults) [
        | inl failed ↦ failed.1.reads
        | inr long ↦ let eleven = ap status_of long.0 in absurd (omega arith)
      ]
      | inr bytes ↦ let five = test_refused_status _ _ _ _ r bytes.2 in absurd (omega arith)
    ]
