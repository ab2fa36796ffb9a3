-- A shelf in memory, call by call.
use Rattle.std.specs.Prelude.{◌≡◌, ◌<◌, ◌≤◌, ◌⊎◌, ◌∷◌, ◌++◌, ◌/◌, ℕ, Bool, List, [], Some, None, IsSomeAnd, slice_get, Result, Ok, Err, Contains, bytes_eq, length, take, true, false, if◌then◌else◌}
use Rattle.ld_outside.specs.MemSink.{count_on}
use Rattle.ld_outside.specs.ShelfView.{ShelfView, Kept, FileList, bytes_of, call_of, file_of}
use Rattle.ld_outside.specs.declared.shelf.ShelfFault.{ShelfFault}
use Rattle.ld_outside.specs.declared.shelf.ShelfFault.TheVariants.{Failed, TooLong, Memory}
use Rattle.ld_outside.specs.declared.shelf_call.ShelfCall.{ShelfCall}
use Rattle.ld_outside.specs.declared.shelf_call.ShelfCallKind.TheVariants.{Start, Append, Read}

-- the files with these bytes under a name: in the first file of that name, or else in a new one at the end
abbrev pub with_file : List ℕ → List ℕ → FileList → FileList
with_file name bytes [] = (name, bytes) ∷ []
with_file name bytes (file ∷ files) =
    if bytes_eq name file.0 then (file.0, bytes) ∷ files else file ∷ with_file name bytes files

-- the first file of this name stands at a place
pub record IsPlace (name : List ℕ) (files : FileList) (at : ℕ) : Type 0 where
  pub before : file_of name (take at files) ≡ None
  pub here : IsSomeAnd (slice_get files at) (λ file. bytes_eq name file.0 ≡ true)

-- a call is told behind the others
abbrev pub with_call : ShelfCall → Kept → Kept
with_call call kept = record kept { calls = kept.calls ++ call ∷ [] }

-- a start that answers Ok
abbrev pub started : List ℕ → Kept → Kept
started name kept = with_call (call_of Start name true) (record kept { files = with_file name [] kept.files })

-- a start that fails
abbrev pub not_started : List ℕ → Kept → Kept
not_started name kept = with_call (call_of Start name false) kept

-- an append of this piece that answers Ok, or of this front of a piece that fails
abbrev pub appended : List ℕ → List ℕ → Bool → Kept → Kept
appended name piece ok kept =
    with_call (call_of Append name ok) (record kept { files = with_file name (bytes_of name kept.files ++ piece) kept.files })

-- the first half of a piece, which stands where its append fails
abbrev pub half : List ℕ → List ℕ
half piece = take (length piece / 2) piece

-- a read, which changes no file, and whether it answers Ok
abbrev pub was_read : List ℕ → Bool → Kept → Kept
was_read name ok kept = with_call (call_of Read name ok) kept

-- what is kept, the numbers of the calls that are to fail, and how many calls there were so far, and how many
-- faults at reads and at writes
pub record MemShelfState : Type 0 where
  pub kept : Kept
  pub failing : List ℕ
  pub made : ℕ
  pub read_faults : ℕ
  pub write_faults : ℕ

-- a shelf in memory tells what it keeps
abbrev pub seen_of : MemShelfState → ShelfView
seen_of s = record { told = Some s.kept; read_faults = s.read_faults; write_faults = s.write_faults }

-- a sure shelf tells what it keeps, and has no faults
abbrev pub seen_of_sure : Kept → ShelfView
seen_of_sure kept = record { told = Some kept; read_faults = 0; write_faults = 0 }

-- this call is one of those that are to fail
abbrev pub IsToFail : MemShelfState → Type 0
IsToFail old = Contains old.failing (count_on old.made)

-- A start or an append is the next call. It fails exactly where it is to fail, but for want of memory. Of
-- what is kept comes the one where it answers Ok and the other where it fails; nothing changes where memory
-- lacks.
abbrev pub IsMemCall : {T : Type 0} → Kept → Kept → MemShelfState → Result T ShelfFault → MemShelfState → Type 0
IsMemCall done failed old (Ok x) new =
    (¬ IsToFail old) × (new ≡ record old { kept = done; made = count_on old.made })
IsMemCall done failed old (Err Failed) new =
    IsToFail old × (new ≡ record old { kept = failed; made = count_on old.made; write_faults = count_on old.write_faults })
IsMemCall done failed old (Err TooLong) new = ⊥
IsMemCall done failed old (Err Memory) new = new ≡ record old { made = count_on old.made }

abbrev pub IsMemStart : {T : Type 0} → MemShelfState → List ℕ → Result T ShelfFault → MemShelfState → Type 0
IsMemStart old name = IsMemCall (started name old.kept) (not_started name old.kept) old

abbrev pub IsMemAppend : {T : Type 0} → MemShelfState → List ℕ → List ℕ → Result T ShelfFault → MemShelfState → Type 0
IsMemAppend old name piece =
    IsMemCall (appended name piece true old.kept) (appended name (half piece) false old.kept) old

-- A read of what is kept. It is too long exactly where the file's bytes, none where there is no such file,
-- are more than `cap`, but for want of memory. `into` is these bytes, and empty after a fault.
abbrev pub IsSureRead : {T : Type 0} → Kept → List ℕ → ℕ → List ℕ → Result T ShelfFault → Kept → Type 0
IsSureRead old name cap into (Ok x) new =
    (into ≡ bytes_of name old.files) × (length into ≤ cap) × (new ≡ was_read name true old)
IsSureRead old name cap into (Err Failed) new = ⊥
IsSureRead old name cap into (Err TooLong) new =
    (cap < length (bytes_of name old.files)) × (into ≡ []) × (new ≡ was_read name false old)
IsSureRead old name cap into (Err Memory) new = (into ≡ []) × (new ≡ old)

-- A read is the next call. It fails exactly where it is to fail or there is no such file, and is too long
-- exactly where the file has a byte past `cap`, but for want of memory. `into` is the file's bytes, and empty
-- after a fault. No file changes, and where memory lacks, nothing of what is kept does.
abbrev pub IsMemRead : {T : Type 0} → MemShelfState → List ℕ → ℕ → List ℕ → Result T ShelfFault → MemShelfState → Type 0
IsMemRead old name cap into (Ok x) new =
    (¬ IsToFail old) × (file_of name old.kept.files ≡ Some into) × (length into ≤ cap)
    × (new ≡ record old { kept = was_read name true old.kept; made = count_on old.made })
IsMemRead old name cap into (Err Failed) new =
    (IsToFail old ⊎ (file_of name old.kept.files ≡ None)) × (into ≡ [])
    × (new ≡ record old { kept = was_read name false old.kept; made = count_on old.made; read_faults = count_on old.read_faults })
IsMemRead old name cap into (Err TooLong) new =
    (¬ IsToFail old) × IsSomeAnd (file_of name old.kept.files) (λ bytes. cap < length bytes) × (into ≡ [])
    × (new ≡ record old { kept = was_read name false old.kept; made = count_on old.made })
IsMemRead old name cap into (Err Memory) new = (into ≡ []) × (new ≡ record old { made = count_on old.made })
