-- The file of a test: which one a request names, and how it is read.
use Rattle.std.specs.Prelude.{◌≡◌, ◌≤◌, ◌⊎◌, ◌++◌, ◌∷◌, [], ℕ, Bool, List, Option, Some, None, Ok, Err, unwrap_or}
use Rattle.ld_outside.specs.Shelf.{IsRead}
use Rattle.ld_outside.specs.ShelfView.{Became, FilesStay, ShelfView, call_of}
use Rattle.ld_outside.specs.declared.shelf.ShelfFault.{ShelfFault}
use Rattle.ld_outside.specs.declared.shelf_call.ShelfCallKind.TheVariants as calls
use Rattle.ld_outside.specs.declared.shelf.ShelfFault.TheVariants as shelves
use Rattle.ld_answer.specs.declared.refusal.Refusal.{Refusal}
use Rattle.ld_answer.specs.declared.refusal.Refusal.TheVariants.{Read, TooLong, Memory}
use Rattle.ld_words.specs.declared.words.Words as requests
use Rattle.ld_words.specs.declared.words.Words.TheVariants.{StripeWeights, StripeSegment, Plan, RehearseTest, RehearseWords, Help}

-- how many entries a journal may have, where the words don't say it
abbrev pub most_entries : ℕ
most_entries = 1000000

abbrev pub entry_limit : Option ℕ → ℕ
entry_limit entries = unwrap_or entries most_entries

-- the file of a test, which part is cut from the test, and how many entries a journal may have
pub record TestFile : Type 0 where
  pub name : List ℕ
  pub segment : Option (List ℕ)
  pub sequence : Option (List ℕ)
  pub limit : ℕ

-- the file that a request names
abbrev pub file_of : requests.Words → Option TestFile
file_of (StripeWeights weights position count) = None
file_of (StripeSegment count cut points) = None
file_of (Plan test cut points entries listed) =
    Some (record { name = test; segment = cut; sequence = points; limit = entry_limit entries })
file_of (RehearseTest test iteration journal cut points entries) =
    Some (record { name = test; segment = cut; sequence = points; limit = entry_limit entries })
file_of (RehearseWords rate unit duration pre max iteration journal entries) = None
file_of Help = None

-- the greatest length of a test's file, in bytes
abbrev pub most_bytes : ℕ
most_bytes = 1048576

-- the file of this name was read: these are its bytes
abbrev pub HasRead : ShelfView → List ℕ → List ℕ → ShelfView → Type 0
HasRead old name bytes new = IsRead {T = Unit {0}} old name most_bytes bytes (Ok tt) new

-- it wasn't, for this fault
abbrev pub HasNotRead : ShelfView → List ℕ → ShelfFault → ShelfView → Type 0
HasNotRead old name fault new = IsRead {T = Unit {0}} old name most_bytes [] (Err fault) new

-- Nothing but reads was done: each file is as it was, no fault of writing was counted, and the file of this name
-- was read once at most.
pub record OnlyReads (name : List ℕ) (old new : ShelfView) : Type 0 where
  pub files : Became old (λ before now. FilesStay before.files now.files) new
  pub calls : Became old (λ before now.
      (now.calls ≡ before.calls) ⊎ ((done : Bool) × (now.calls ≡ before.calls ++ call_of calls.Read name done ∷ []))) new
  pub writes : new.write_faults ≡ old.write_faults
  pub reads : old.read_faults ≤ new.read_faults

-- the refusal says why the file wasn't read: a fault, or too many bytes, and it is the word at place 1
abbrev pub IsReadFault : ShelfView → List ℕ → Refusal → ShelfView → Type 0
IsReadFault old name r new =
    ((r ≡ Read) × HasNotRead old name shelves.Failed new)
    ⊎ (((r ≡ TooLong 1) × HasNotRead old name shelves.TooLong new) ⊎ ((r ≡ Memory) × HasNotRead old name shelves.Memory new))

-- nothing was done but the reading of a file, if there is one
abbrev pub IsKept : Option TestFile → ShelfView → ShelfView → Type 0
IsKept None old new = new ≡ old
IsKept (Some file) old new = OnlyReads file.name old new
