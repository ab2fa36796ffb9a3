-- What calls of a shelf in memory make of its files.
use Rattle.std.proofs.Common.{◌≡◌, ◌∙◌, ◌++◌, [], ℕ, Bool, List, ap, subst, sym}
use Rattle.ld_outside.proofs.FileLemmas.{file_is}
use Rattle.ld_outside.specs.MemShelf.{appended, started}
use Rattle.ld_outside.specs.ShelfView.{FileIs, Kept, bytes_of}

-- a file that was started is empty
pub is_empty : (name : List ℕ) (old before now : Kept) → before ≡ old → now ≡ started name before → FileIs name [] old.files now.files
is_empty name old before now same is =
    subst (λ kept. FileIs name [] old.files kept.files) (sym (is ∙ ap (started name) same)) (file_is name [] old.files)

-- a piece that was appended is behind the file's bytes
pub is_longer : (name piece : List ℕ) (ok : Bool) (old before now : Kept) → before ≡ old → now ≡ appended name piece ok before →
    FileIs name (bytes_of name old.files ++ piece) old.files now.files
is_longer name piece ok old before now same is =
    subst (λ kept. FileIs name (bytes_of name old.files ++ piece) old.files kept.files) (sym (is ∙ ap (appended name piece ok) same))
    (file_is name (bytes_of name old.files ++ piece) old.files)
