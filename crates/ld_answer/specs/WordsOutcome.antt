-- What becomes of words: an answer, or a refusal, before anything is written.
use Rattle.std.specs.Prelude.{◌≡◌, ◌≢◌, ◌⊎◌, ℕ, List, Some, Result, Ok, Err}
use Rattle.ld_outside.specs.ShelfView.{ShelfView}
use Rattle.ld_words.specs.Words as words
use Rattle.ld_words.specs.declared.words.Words as requests
use Rattle.ld_answer.specs.Answer.{HasUtf8Name}
use Rattle.ld_answer.specs.Answered.{HasAnswer}
use Rattle.ld_answer.specs.Refusal.{IsRefused}
use Rattle.ld_answer.specs.TestFile.{file_of, OnlyReads, TestFile}
use Rattle.ld_answer.specs.declared.answer.Answer.{Answer}
use Rattle.ld_answer.specs.declared.refusal.Refusal.{Refusal}
use Rattle.ld_answer.specs.declared.refusal.Refusal.TheVariants.{Read, Memory}

-- nothing was written: the shelf is as it was, or the file that the words name was read once at most
abbrev pub IsUnwritten : List (List ℕ) → ShelfView → ShelfView → Type 0
IsUnwritten ws shelf shelf' =
    (shelf' ≡ shelf)
    ⊎ ((request : requests.Words) × (file : TestFile) × words.Asks ws request × (file_of request ≡ Some file)
    × OnlyReads file.name shelf shelf')

-- the words are refused so, but for want of memory; nothing was written
pub record IsWordsBroken (ws : List (List ℕ)) (old : ShelfView) (r : Refusal) (new : ShelfView) : Type 0 where
  pub refused : r ≢ Memory → IsRefused ws old r new
  pub kept : IsUnwritten ws old new
  pub reads : r ≢ Read → new.read_faults ≡ old.read_faults

-- the words are answered so, or broken so
abbrev pub IsWordsOutcome : List (List ℕ) → Result Answer Refusal → ShelfView → ShelfView → Type 0
IsWordsOutcome ws (Ok answer) old new = HasAnswer ws old answer new × HasUtf8Name answer
IsWordsOutcome ws (Err r) old new = IsWordsBroken ws old r new
