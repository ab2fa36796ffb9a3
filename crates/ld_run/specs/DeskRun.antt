-- A run of the desk: words in, a status out, and what was done to the shelf and to the two sinks.
use Rattle.std.specs.Prelude.{◌≡◌, ◌≢◌, ◌≤◌, ◌⊎◌, ℕ, List, None, Some}
use Rattle.ld_answer.specs.Answer.{full_line}
use Rattle.ld_answer.specs.Answered.{HasAnswer}
use Rattle.ld_answer.specs.Refusal.{IsRefused, IsRefusedAmong, IsRefusedUnread}
use Rattle.ld_answer.specs.RefusalLine.{IsRefusalStatus, line_of, memory_line, status_of}
use Rattle.ld_answer.specs.WordsOutcome.{IsUnwritten}
use Rattle.ld_answer.specs.declared.answer.Answer.{Answer}
use Rattle.ld_answer.specs.declared.refusal.Refusal.{Refusal}
use Rattle.ld_outside.specs.ShelfView.{Became, ShelfView}
use Rattle.ld_outside.specs.SinkView.{SinkView, TookFront, Rose}
use Rattle.ld_rehearsal.specs.declared.full.FullJournal.{FullJournal}
use Rattle.ld_run.specs.Delivery.{AllWritten, FileBroken, IsEndLine, TextBroken}
use Rattle.ld_run.specs.Saying.{Says, Untouched, write_line}

-- a line that these words may lead to
pub record IsLine (ws : List (List ℕ)) (shelf shelf' : ShelfView) (line : List ℕ) : Type 0 where
  pub cause : (line ≡ memory_line)
      ⊎ (((answer : Answer) × (read : ShelfView) × HasAnswer ws shelf answer read × IsEndLine answer line)
      ⊎ ((r : Refusal) × IsRefused ws shelf r shelf' × (line ≡ line_of r)))

-- the statuses that there are
abbrev pub IsStatus : ℕ → Type 0
IsStatus status = IsRefusalStatus status ⊎ ((status ≡ 0) ⊎ ((status ≡ 4) ⊎ ((status ≡ 7) ⊎ (status ≡ 9))))

-- The answer to the words: the status, and what was done to the shelf, to `out` and to `err`.
pub record IsDeskRun (ws : List (List ℕ)) (status : ℕ) (shelf shelf' : ShelfView) (out out' err err' : SinkView) : Type 0 where
  -- the statuses that there are
  pub known : IsStatus status
  -- 0: all that the words ask for was written, no journal lacked room, and nothing is on `err`
  pub well : status ≡ 0 → (answer : Answer) × (read : ShelfView) × HasAnswer ws shelf answer read
      × (answer.full ≡ None) × AllWritten answer read shelf' out out' × Untouched err err'
  -- 7: all was written, and the line for the first place without room is on `err`
  pub full : status ≡ 7 → (answer : Answer) × (read : ShelfView) × (full : FullJournal) × HasAnswer ws shelf answer read
      × (answer.full ≡ Some full) × AllWritten answer read shelf' out out' × Says err (full_line full) err'
  -- 2, 3, 5 and 11: the words are refused, with the line of the refusal on `err`, and nothing on `out`; of the
  -- shelf there is no call but the read of the file that the words name, where that is what is refused
  pub refused_only : IsRefusalStatus status → (r : Refusal) × IsRefused ws shelf r shelf'
      × (status ≡ status_of r) × Untouched out out' × Says err (line_of r) err'
  -- they come wherever words are refused without a file, but for want of memory
  pub refused_exactly : (r : Refusal) → IsRefusedUnread ws r → (status ≡ status_of r) ⊎ (status ≡ 9)
  -- and wherever the file that they name is refused, but for want of memory and for a fault of reading, which
  -- was counted
  pub refused_among : Became shelf (λ before now. (r : Refusal) → IsRefusedAmong before.files ws r →
      (status ≡ status_of r) ⊎ ((status ≡ 9) ⊎ (status ≡ 3))) shelf'
  -- 3: a fault of reading was counted; no other status than 9 comes with one
  pub read_only : status ≡ 3 → Rose shelf.read_faults shelf'.read_faults
  pub read_count : (status ≢ 3) → (status ≢ 9) → shelf'.read_faults ≡ shelf.read_faults
  -- 4: a fault of the shelf was counted, and the file was broken off; or one of `out` was, and a front of the
  -- text is on it
  pub write_only : status ≡ 4 → (answer : Answer) × (read : ShelfView) × HasAnswer ws shelf answer read × Says err write_line err'
      × ((FileBroken answer read shelf' out out' × Rose shelf.write_faults shelf'.write_faults)
      ⊎ (TextBroken answer read shelf' out out' × Rose out.faults out'.faults))
  -- 9: nothing was written; or the file was broken off, or a front of the text is on `out`. At most a line is
  -- on `err`
  pub memory_out : status ≡ 9 → (IsUnwritten ws shelf shelf' × Untouched out out')
      ⊎ ((answer : Answer) × (read : ShelfView) × HasAnswer ws shelf answer read
      × (FileBroken answer read shelf' out out' ⊎ TextBroken answer read shelf' out out'))
  pub memory_err : status ≡ 9 → (line : List ℕ) × IsLine ws shelf shelf' line × TookFront err line err'
  -- the counts of faults never fall
  pub reads : shelf.read_faults ≤ shelf'.read_faults
  pub writes : shelf.write_faults ≤ shelf'.write_faults
  pub out_count : out.faults ≤ out'.faults
  pub err_count : err.faults ≤ err'.faults
