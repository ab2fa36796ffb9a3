-- What is seen of a shelf from outside.
use Rattle.std.specs.Prelude.{◌≡◌, ◌≢◌, ◌∷◌, ℕ, Bool, List, [], Option, Some, None, IfSome, IsSomeAnd, bytes_eq, unwrap_or, if◌then◌else◌}
use Rattle.ld_outside.specs.declared.shelf_call.ShelfCall.{ShelfCall}
use Rattle.ld_outside.specs.declared.shelf_call.ShelfCallKind.{ShelfCallKind}

-- files by name, as pairs of a name and bytes
abbrev pub FileList : Type 0
FileList = List (List ℕ × List ℕ)

-- the bytes of the file of this name, where there is one: of several pairs the first is the file
abbrev pub file_of : List ℕ → FileList → Option (List ℕ)
file_of name [] = None
file_of name (file ∷ files) = if bytes_eq name file.0 then Some file.1 else file_of name files

-- the bytes under this name, none where there is no such file
abbrev pub bytes_of : List ℕ → FileList → List ℕ
bytes_of name files = unwrap_or (file_of name files) []

-- each file of another name is as it was
abbrev pub OthersStay : List ℕ → FileList → FileList → Type 0
OthersStay name old new = (other : List ℕ) → other ≢ name → file_of other new ≡ file_of other old

-- each file is as it was
abbrev pub FilesStay : FileList → FileList → Type 0
FilesStay old new = (name : List ℕ) → file_of name new ≡ file_of name old

-- the file of this name has these bytes, and each other is as it was
pub record FileIs (name bytes : List ℕ) (old new : FileList) : Type 0 where
  pub named : file_of name new ≡ Some bytes
  pub others : OthersStay name old new

-- what a shelf tells: its files, and its calls in order
pub record Kept : Type 0 where
  pub files : FileList
  pub calls : List ShelfCall

-- what it tells, where it does, and how many faults it has counted at its reads and at its writes
pub record ShelfView : Type 0 where
  pub told : Option Kept
  pub read_faults : ℕ
  pub write_faults : ℕ

-- Where the shelf tells what it has, it told that before too, and one came of the other so.
abbrev pub Became : ShelfView → (Kept → Kept → Type 0) → ShelfView → Type 0
Became old change new = IfSome new.told (λ now. IsSomeAnd old.told (λ before. change before now))

-- the call of a kind and a name, and whether it answered Ok
abbrev pub call_of : ShelfCallKind → List ℕ → Bool → ShelfCall
call_of k n ok = record { kind = k; name = n; answered_ok = ok }
