-- How an answer is written: its file on the shelf, its text on `out`, and a line on `err`.
use Rattle.std.specs.Prelude.{◌≡◌, ◌≤◌, ◌⊎◌, ℕ, List, Option, None, Some, OnErr, Result, take}
use Rattle.ld_outside.specs.Shelf.{HasNotPut, HasPut, IsPutFile}
use Rattle.ld_outside.specs.ShelfView.{Became, ShelfView}
use Rattle.ld_outside.specs.SinkView.{SinkView, Took, TookFront, Rose}
use Rattle.ld_outside.specs.declared.shelf.ShelfFault.{ShelfFault}
use Rattle.ld_rehearsal.specs.declared.full.FullJournal.{FullJournal}
use Rattle.ld_answer.specs.Answer.{full_line}
use Rattle.ld_answer.specs.RefusalLine.{memory_line}
use Rattle.ld_run.specs.Saying.{Says, Untouched, write_line}
use Rattle.ld_answer.specs.declared.answer.Answer.{Answer}
use Rattle.ld_answer.specs.declared.answer.NamedFile.{NamedFile}

-- ---- the file

-- the file, if there is one, was to be put on the shelf; without one no call is made of it
abbrev pub IsFiled : {T : Type 0} → Option NamedFile → Result T ShelfFault → ShelfView → ShelfView → Type 0
IsFiled None result old new = OnErr result ⊥ × (new ≡ old)
IsFiled (Some f) result old new = IsPutFile old f.name f.bytes result new

-- the file has all of its bytes, and each other is as it was
abbrev pub WholeFiled : Option NamedFile → ShelfView → ShelfView → Type 0
WholeFiled None old new = new ≡ old
WholeFiled (Some f) old new = Became old (HasPut f.name f.bytes) new × (new.write_faults ≡ old.write_faults)

-- the file wasn't started and is as it was, or it has a front of its bytes; each other is as it was
abbrev pub FrontFiled : Option NamedFile → ShelfView → ShelfView → Type 0
FrontFiled None old new = new ≡ old
FrontFiled (Some f) old new =
    Became old (λ before now. HasNotPut f.name before now ⊎ ((n : ℕ) × HasPut f.name (take n f.bytes) before now)) new

-- ---- the file and the text

-- all was written
abbrev pub AllWritten : Answer → ShelfView → ShelfView → SinkView → SinkView → Type 0
AllWritten answer shelf shelf' out out' = WholeFiled answer.file shelf shelf' × Took out answer.text out' × (out'.faults ≡ out.faults)

-- the file was broken off, and nothing is on `out`
abbrev pub FileBroken : Answer → ShelfView → ShelfView → SinkView → SinkView → Type 0
FileBroken answer shelf shelf' out out' = FrontFiled answer.file shelf shelf' × Untouched out out'

-- the file was written, and a front of the text is on `out`
abbrev pub TextBroken : Answer → ShelfView → ShelfView → SinkView → SinkView → Type 0
TextBroken answer shelf shelf' out out' = WholeFiled answer.file shelf shelf' × TookFront out answer.text out'

-- ---- the end

-- the line that an answer may end with
abbrev pub IsEndLine : Answer → List ℕ → Type 0
IsEndLine answer line =
    (line ≡ memory_line) ⊎ ((line ≡ write_line) ⊎ ((full : FullJournal) × (answer.full ≡ Some full) × (line ≡ full_line full)))

-- an answer that was written ends well, or with the line for a journal that had no room
pub record IsEndSaid (full : Option FullJournal) (status : ℕ) (err err' : SinkView) : Type 0 where
  pub said : ((full ≡ None) × (status ≡ 0) × Untouched err err')
      ⊎ (((f : FullJournal) × (full ≡ Some f) × (status ≡ 7) × Says err (full_line f) err')
      ⊎ ((f : FullJournal) × (full ≡ Some f) × (status ≡ 9) × (TookFront err (full_line f) err' ⊎ TookFront err memory_line err')))
  pub count : err.faults ≤ err'.faults

-- An answer was written: all of it, or up to a fault of the shelf or of `out`, or up to want of memory.
pub record IsDelivered (answer : Answer) (status : ℕ) (shelf shelf' : ShelfView) (out out' err err' : SinkView) : Type 0 where
  pub put : ((status ≡ 0) × (answer.full ≡ None) × AllWritten answer shelf shelf' out out' × Untouched err err')
      ⊎ (((full : FullJournal) × (answer.full ≡ Some full) × (status ≡ 7) × AllWritten answer shelf shelf' out out' × Says err (full_line full) err')
      ⊎ (((status ≡ 4) × FileBroken answer shelf shelf' out out' × Rose shelf.write_faults shelf'.write_faults × Says err write_line err')
      ⊎ (((status ≡ 4) × TextBroken answer shelf shelf' out out' × Rose out.faults out'.faults × Says err write_line err')
      ⊎ ((status ≡ 9) × (FileBroken answer shelf shelf' out out' ⊎ TextBroken answer shelf shelf' out out')
      × ((line : List ℕ) × IsEndLine answer line × TookFront err line err')))))
  pub shelf_count : shelf.write_faults ≤ shelf'.write_faults
  pub reads : shelf'.read_faults ≡ shelf.read_faults
  pub out_count : out.faults ≤ out'.faults
  pub err_count : err.faults ≤ err'.faults
