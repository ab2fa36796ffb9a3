-- What a shelf does with a call, and with a whole text.
use Rattle.std.specs.Prelude.{◌≡◌, ◌<◌, ◌≤◌, ◌∷◌, ◌⊎◌, ◌++◌, ℕ, List, [], Result, Ok, Err, OnOk, OnErr, IsErrOf, length, take, true, false}
use Rattle.std.specs.List.{AllByRecursion}
use Rattle.ld_outside.specs.ShelfView.{ShelfView, Kept, FileList, bytes_of, FileIs, FilesStay, Became, call_of}
use Rattle.ld_outside.specs.SinkView.{Rose}
use Rattle.ld_outside.specs.declared.shelf.ShelfFault.{ShelfFault}
use Rattle.ld_outside.specs.declared.shelf.ShelfFault.TheVariants.{Failed, TooLong, Memory}
use Rattle.ld_outside.specs.declared.shelf_call.ShelfCall.{ShelfCall}
use Rattle.ld_outside.specs.declared.shelf_call.ShelfCallKind.{ShelfCallKind}
use Rattle.ld_outside.specs.declared.shelf_call.ShelfCallKind.TheVariants.{Start, Append, Read}

-- the count of faults at reads rises with each read that failed, and with nothing else
abbrev pub CountsReadFault : {T : Type 0} → ℕ → Result T ShelfFault → ℕ → Type 0
CountsReadFault before (Ok x) after = after ≡ before
CountsReadFault before (Err Failed) after = Rose before after
CountsReadFault before (Err TooLong) after = after ≡ before
CountsReadFault before (Err Memory) after = after ≡ before

-- the count of faults at writes rises with each write that failed, and with nothing else; a write is never
-- too long
abbrev pub CountsWriteFault : {T : Type 0} → ℕ → Result T ShelfFault → ℕ → Type 0
CountsWriteFault before (Ok x) after = after ≡ before
CountsWriteFault before (Err Failed) after = Rose before after
CountsWriteFault before (Err TooLong) after = ⊥
CountsWriteFault before (Err Memory) after = after ≡ before

-- The calls have this one behind them, and whether it answered Ok. One that was refused for want of
-- memory may be missing.
abbrev pub AddsCall : {T : Type 0} → ShelfCallKind → List ℕ → Result T ShelfFault → List ShelfCall → List ShelfCall → Type 0
AddsCall kind name (Ok x) old new = new ≡ old ++ call_of kind name true ∷ []
AddsCall kind name (Err Failed) old new = new ≡ old ++ call_of kind name false ∷ []
AddsCall kind name (Err TooLong) old new = new ≡ old ++ call_of kind name false ∷ []
AddsCall kind name (Err Memory) old new = (new ≡ old ++ call_of kind name false ∷ []) ⊎ (new ≡ old)

-- One start: the file is there and empty, or it is as it was.
pub record IsStart {T : Type 0} (old : ShelfView) (name : List ℕ) (result : Result T ShelfFault) (new : ShelfView) : Type 0 where
  pub empty : OnOk result (Became old (λ before now. FileIs name [] before.files now.files) new)
  pub kept : OnErr result (Became old (λ before now. FilesStay before.files now.files) new)
  pub calls : Became old (λ before now. AddsCall Start name result before.calls now.calls) new
  pub reads : new.read_faults ≡ old.read_faults
  pub faults : CountsWriteFault old.write_faults result new.write_faults

-- the file of this name has a front of the piece behind its bytes, and each other is as it was
abbrev pub HasFront : List ℕ → List ℕ → FileList → FileList → Type 0
HasFront name piece old new = (n : ℕ) × FileIs name (bytes_of name old ++ take n piece) old new

-- One append: the piece is behind the file's bytes, which are none where there was no such file. After
-- a fault a front of it may be.
pub record IsAppend {T : Type 0} (old : ShelfView) (name piece : List ℕ) (result : Result T ShelfFault) (new : ShelfView) : Type 0 where
  pub whole : OnOk result (Became old (λ before now. FileIs name (bytes_of name before.files ++ piece) before.files now.files) new)
  pub front : OnErr result (Became old (λ before now. FilesStay before.files now.files ⊎ HasFront name piece before.files now.files) new)
  pub calls : Became old (λ before now. AddsCall Append name result before.calls now.calls) new
  pub reads : new.read_faults ≡ old.read_faults
  pub faults : CountsWriteFault old.write_faults result new.write_faults

-- One read: `into` is the file's bytes, which are none where there is no such file. It is too long exactly
-- where they are more than `cap`, and empty after a fault. Each file is as it was.
pub record IsRead {T : Type 0} (old : ShelfView) (name : List ℕ) (cap : ℕ) (into : List ℕ) (result : Result T ShelfFault) (new : ShelfView) : Type 0 where
  pub whole : OnOk result (Became old (λ before now. into ≡ bytes_of name before.files) new)
  pub within : OnOk result (length into ≤ cap)
  pub longer : IsErrOf result TooLong → Became old (λ before now. cap < length (bytes_of name before.files)) new
  pub empty : OnErr result (into ≡ [])
  pub kept : Became old (λ before now. FilesStay before.files now.files) new
  pub calls : Became old (λ before now. AddsCall Read name result before.calls now.calls) new
  pub reads : CountsReadFault old.read_faults result new.read_faults
  pub writes : new.write_faults ≡ old.write_faults

-- these calls are appends to the file of this name
abbrev pub AreAppends : List ℕ → List ShelfCall → Type 0
AreAppends name = AllByRecursion (λ call. (call.kind ≡ Append) × (call.name ≡ name))

-- the calls have a start behind them that answered Ok, and then only appends to its file
abbrev pub AddsPut : List ℕ → List ShelfCall → List ShelfCall → Type 0
AddsPut name old new =
    (appends : List ShelfCall) × AreAppends name appends × (new ≡ old ++ call_of Start name true ∷ appends)

-- the calls have a start behind them that didn't answer Ok, and which may be missing
abbrev pub AddsNoPut : List ℕ → List ShelfCall → List ShelfCall → Type 0
AddsNoPut name old new = (new ≡ old ++ call_of Start name false ∷ []) ⊎ (new ≡ old)

-- the file was started, and is these bytes now
abbrev pub HasPut : List ℕ → List ℕ → Kept → Kept → Type 0
HasPut name bytes before now = FileIs name bytes before.files now.files × AddsPut name before.calls now.calls

-- the file wasn't started, and each file is as it was
abbrev pub HasNotPut : List ℕ → Kept → Kept → Type 0
HasNotPut name before now = FilesStay before.files now.files × AddsNoPut name before.calls now.calls

-- A whole text is put under a name: the file is that text. After a fault it is a front of the text, or it
-- wasn't started.
pub record IsPutFile {T : Type 0} (old : ShelfView) (name text : List ℕ) (result : Result T ShelfFault) (new : ShelfView) : Type 0 where
  pub whole : OnOk result (Became old (HasPut name text) new)
  pub front : OnErr result (Became old (λ before now.
      HasNotPut name before now ⊎ ((n : ℕ) × HasPut name (take n text) before now)) new)
  pub reads : new.read_faults ≡ old.read_faults
  pub faults : CountsWriteFault old.write_faults result new.write_faults
