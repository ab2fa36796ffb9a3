-- What becomes of a request: an answer, or a refusal.
use Rattle.std.specs.Prelude.{◌≡◌, ◌≢◌, Result, Ok, Err}
use Rattle.ld_outside.specs.ShelfView.{ShelfView}
use Rattle.ld_words.specs.declared.words.Words as requests
use Rattle.ld_answer.specs.Answer.{HasUtf8Name}
use Rattle.ld_answer.specs.Answered.{IsAnswered}
use Rattle.ld_answer.specs.Planned.{IsCutPlan}
use Rattle.ld_answer.specs.Refusal.{IsRefusalOf, RefusesNamed}
use Rattle.ld_answer.specs.TestFile.{file_of, HasRead, IsKept, OnlyReads, TestFile}
use Rattle.ld_answer.specs.declared.answer.Answer.{Answer}
use Rattle.ld_answer.specs.declared.refusal.Refusal.{Refusal}
use Rattle.ld_answer.specs.declared.refusal.Refusal.TheVariants.{Read, Memory}
use Rattle.ld_answer.specs.declared.test_file.PlannedTest.{PlannedTest}

-- The file has no plan: it is refused so, but for want of memory. Nothing but its reading was done, and a fault
-- of reading comes with the refusal that says so.
pub record IsFileBroken (file : TestFile) (old : ShelfView) (r : Refusal) (new : ShelfView) : Type 0 where
  pub refused : r ≢ Memory → RefusesNamed file old r new
  pub kept : OnlyReads file.name old new
  pub reads : r ≢ Read → new.read_faults ≡ old.read_faults

-- the file's test was read and has this plan, or it is broken so
abbrev pub IsFileOutcome : TestFile → Result PlannedTest Refusal → ShelfView → ShelfView → Type 0
IsFileOutcome file (Ok planned) old new =
    HasRead old file.name planned.text.items new × IsCutPlan file.segment file.sequence planned.text.items file.limit planned.plan
IsFileOutcome file (Err r) old new = IsFileBroken file old r new

-- the request is refused so, but for want of memory; nothing but the reading of its file was done
pub record IsBroken (request : requests.Words) (old : ShelfView) (r : Refusal) (new : ShelfView) : Type 0 where
  pub refused : r ≢ Memory → IsRefusalOf request old r new
  pub kept : IsKept (file_of request) old new
  pub reads : r ≢ Read → new.read_faults ≡ old.read_faults

-- the request is answered so, and any file that is to be written has a name in UTF-8; or it is broken so
abbrev pub IsOutcome : requests.Words → Result Answer Refusal → ShelfView → ShelfView → Type 0
IsOutcome request (Ok answer) old new = IsAnswered request old answer new × HasUtf8Name answer
IsOutcome request (Err r) old new = IsBroken request old r new
