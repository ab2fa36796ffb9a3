-- Why words are refused.
use Rattle.std.specs.Prelude.{◌≡◌, ◌<◌, ◌≤◌, ◌⊎◌, ℕ, List, Option, None, Some, length}
use Rattle.ld_outside.specs.ShelfView.{FileList, ShelfView, bytes_of}
use Rattle.ld_outside.specs.declared.shelf.ShelfFault.TheVariants as shelves
use Rattle.ld_words.specs.RateTest.{rate_test}
use Rattle.ld_words.specs.Words as words
use Rattle.ld_words.specs.declared.fault.WordsFault.TheVariants.{Refused}
use Rattle.ld_words.specs.declared.words.Words as requests
use Rattle.ld_words.specs.declared.words.Words.TheVariants.{StripeWeights, StripeSegment, Plan, RehearseTest, RehearseWords, Help}
use Rattle.ld_answer.specs.Cut.{IsCutRefusal}
use Rattle.ld_answer.specs.Planned.{IsCuttable, IsUncut, RefusesCutTest, RefusesWhole}
use Rattle.ld_answer.specs.Stripe.{IsWeightsRefusal}
use Rattle.ld_answer.specs.TestFile.{entry_limit, file_of, most_bytes, HasNotRead, HasRead, TestFile}
use Rattle.ld_answer.specs.declared.refusal.Refusal.{Refusal}
use Rattle.ld_answer.specs.declared.refusal.Refusal.TheVariants.{Words, Read, TooLong}

-- ---- without a file

-- what a request asks for is refused so, before any file is read
abbrev pub IsUnreadRefusal : requests.Words → Refusal → Type 0
IsUnreadRefusal (StripeWeights weights position count) r = IsWeightsRefusal weights position r
IsUnreadRefusal (StripeSegment count segment sequence) r = IsCutRefusal segment sequence r
IsUnreadRefusal (Plan name segment sequence entries listed) r = IsUncut segment sequence r
IsUnreadRefusal (RehearseTest name iteration journal segment sequence entries) r = IsUncut segment sequence r
IsUnreadRefusal (RehearseWords rate unit duration pre max iteration journal entries) r =
    RefusesWhole (rate_test rate unit duration pre max) (entry_limit entries) r
IsUnreadRefusal Help r = ⊥

-- The words are refused so, before any file is read: as words, or else for what they ask for.
pub record IsRefusedUnread (ws : List (List ℕ)) (r : Refusal) : Type 0 where
  pub cause : ((place : ℕ) × (r ≡ Words place) × words.IsRefused ws (Refused place))
      ⊎ ((request : requests.Words) × words.Asks ws request × IsUnreadRefusal request r)

-- ---- with a file

-- the file wasn't read, or is too long; it is the word behind the command
abbrev pub IsFileRefusal : ShelfView → List ℕ → Refusal → ShelfView → Type 0
IsFileRefusal old name r new =
    ((r ≡ Read) × HasNotRead old name shelves.Failed new) ⊎ ((r ≡ TooLong 1) × HasNotRead old name shelves.TooLong new)

-- the file was read, and its bytes are refused
abbrev pub IsBytesRefusal : ShelfView → TestFile → Refusal → ShelfView → Type 0
IsBytesRefusal old file r new =
    (test : List ℕ) × HasRead old file.name test new × RefusesCutTest file.segment file.sequence test file.limit r

-- a file of which a part can be cut is refused so: for itself, or else for its bytes
pub record RefusesFile (file : TestFile) (old : ShelfView) (r : Refusal) (new : ShelfView) : Type 0 where
  pub cuttable : IsCuttable file.segment file.sequence
  pub cause : IsFileRefusal old file.name r new ⊎ IsBytesRefusal old file r new

-- no part of it can be cut, or else it is refused so
pub record RefusesNamed (file : TestFile) (old : ShelfView) (r : Refusal) (new : ShelfView) : Type 0 where
  pub cause : (IsUncut file.segment file.sequence r × (new ≡ old)) ⊎ RefusesFile file old r new

-- what a request asks for is refused so: for this file, or where it names none without any
abbrev pub IsRefusalFor : Option TestFile → requests.Words → ShelfView → Refusal → ShelfView → Type 0
IsRefusalFor None request old r new = IsUnreadRefusal request r × (new ≡ old)
IsRefusalFor (Some file) request old r new = RefusesNamed file old r new

abbrev pub IsRefusalOf : requests.Words → ShelfView → Refusal → ShelfView → Type 0
IsRefusalOf request = IsRefusalFor (file_of request) request

-- The words are refused so: as words, or else for what they ask for. Want of memory is no refusal of theirs.
pub record IsRefused (ws : List (List ℕ)) (old : ShelfView) (r : Refusal) (new : ShelfView) : Type 0 where
  pub cause : ((place : ℕ) × (r ≡ Words place) × words.IsRefused ws (Refused place) × (new ≡ old))
      ⊎ ((request : requests.Words) × words.Asks ws request × IsRefusalOf request old r new)

-- ---- with files that are told

-- a file of which a part can be cut is too long, or else its bytes are refused
pub record RefusesFileAmong (files : FileList) (file : TestFile) (r : Refusal) : Type 0 where
  pub cuttable : IsCuttable file.segment file.sequence
  pub cause : ((r ≡ TooLong 1) × (most_bytes < length (bytes_of file.name files)))
      ⊎ ((length (bytes_of file.name files) ≤ most_bytes)
      × RefusesCutTest file.segment file.sequence (bytes_of file.name files) file.limit r)

-- the words are refused so for the file that they name, where these are the files
pub record IsRefusedAmong (files : FileList) (ws : List (List ℕ)) (r : Refusal) : Type 0 where
  pub request : requests.Words
  pub asks : words.Asks ws request
  pub file : TestFile
  pub file_is : file_of request ≡ Some file
  pub refused : RefusesFileAmong files file r
