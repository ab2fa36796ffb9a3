-- Files by name.
use Rattle.std.proofs.Common.{◌≡◌, ◌≢◌, ◌∙◌, ◌++◌, ◌∷◌, [], ℕ, Bool, true, false, List, get_or, take, set, ap, inl, inr, refl, subst, suc, sym, zero}
use Rattle.std.specs.Prelude.{Option, Some, None, IsSomeAnd, bytes_eq, slice_get, if◌then◌else◌}
use Rattle.std.proofs.lemmas.Bool.{cases_Bool}
use Rattle.std.proofs.lemmas.Slice.Eq.{bytes_eq-Decides}
use Rattle.ld_outside.specs.MemShelf.{IsPlace, with_file}
use Rattle.ld_outside.specs.ShelfView.{FileList, FileIs, OthersStay, file_of}

-- a name is itself
same_name : (name : List ℕ) → bytes_eq name name ≡ true
same_name name = (bytes_eq-Decides name name).1 refl

-- names that differ
other_name : (a b : List ℕ) → a ≢ b → bytes_eq a b ≡ false
other_name a b differ = elim (cases_Bool (bytes_eq a b)) [
  | inl is ↦ absurd (differ ((bytes_eq-Decides a b).0 is))
  | inr is ↦ is
]

-- one that isn't found isn't here, and isn't later
missed : {X : Type 0} (b : Bool) (x : X) (rest : Option X) → (if b then Some x else rest) ≡ None → (b ≡ false) × (rest ≡ None)
missed true x rest h = cc
missed false x rest h = (refl, h)

-- the file of a name is where its first place is
file_at : (name : List ℕ) (files : FileList) (at : ℕ) → file_of name (take at files) ≡ None →
    (file : List ℕ × List ℕ) → slice_get files at ≡ Some file → bytes_eq name file.0 ≡ true → file_of name files ≡ Some file.1
file_at name [] at before file is here = cc
file_at name (first ∷ files) zero before file is here =
    let same : first ≡ file = cc in
    ap (λ b. if b then Some first.1 else file_of name files) (ap (λ f. bytes_eq name f.0) same ∙ here) ∙ ap (λ f. Some f.1) same
file_at name (first ∷ files) (suc at) before file is here =
    let gone = missed (bytes_eq name first.0) first.1 (file_of name (take at files)) before in
    ap (λ b. if b then Some first.1 else file_of name files) gone.0 ∙ file_at name files at gone.1 file is here

-- setting the bytes at the first place sets them in the file
set_at : (name bytes : List ℕ) (files : FileList) (at : ℕ) → file_of name (take at files) ≡ None →
    (file : List ℕ × List ℕ) → slice_get files at ≡ Some file → bytes_eq name file.0 ≡ true → set files at (file.0, bytes) ≡ with_file name bytes files
set_at name bytes [] at before file is here = cc
set_at name bytes (first ∷ files) zero before file is here =
    let same : first ≡ file = cc in
    sym (ap (λ b. if b then (first.0, bytes) ∷ files else first ∷ with_file name bytes files) (ap (λ f. bytes_eq name f.0) same ∙ here)
    ∙ ap (λ f. (f.0, bytes) ∷ files) same)
set_at name bytes (first ∷ files) (suc at) before file is here =
    let gone = missed (bytes_eq name first.0) first.1 (file_of name (take at files)) before in
    sym (ap (λ b. if b then (first.0, bytes) ∷ files else first ∷ with_file name bytes files) gone.0
    ∙ ap (λ fs. first ∷ fs) (sym (set_at name bytes files at gone.1 file is here)))

-- a file that is missing is added at the end
pub added : (name bytes : List ℕ) (files : FileList) → file_of name files ≡ None → files ++ (name, bytes) ∷ [] ≡ with_file name bytes files
added name bytes [] none = refl
added name bytes (first ∷ files) none =
    let gone = missed (bytes_eq name first.0) first.1 (file_of name files) none in
    sym (ap (λ b. if b then (first.0, bytes) ∷ files else first ∷ with_file name bytes files) gone.0
    ∙ ap (λ fs. first ∷ fs) (sym (added name bytes files gone.1)))

-- one place more was passed
pub pass_one : (name : List ℕ) (files : FileList) (at : ℕ) → file_of name (take at files) ≡ None →
    (file : List ℕ × List ℕ) → slice_get files at ≡ Some file → bytes_eq name file.0 ≡ false → file_of name (take (suc at) files) ≡ None
pass_one name [] at before file is other = cc
pass_one name (first ∷ files) zero before file is other =
    let same : first ≡ file = cc in
    ap (λ b. if b then Some first.1 else None) (ap (λ f. bytes_eq name f.0) same ∙ other)
pass_one name (first ∷ files) (suc at) before file is other =
    let gone = missed (bytes_eq name first.0) first.1 (file_of name (take at files)) before in
    ap (λ b. if b then Some first.1 else file_of name (take (suc at) files)) gone.0 ∙ pass_one name files at gone.1 file is other

-- what is read at a place where there is something is that
some_here : {X : Type 0} (P : X → Type 0) (xs : List X) (at : ℕ) → IsSomeAnd (slice_get xs at) P → (x : X) → x ≡ get_or xs at x →
    (slice_get xs at ≡ Some x) × P x
some_here P [] at is x read = absurd is
some_here P (y ∷ xs) zero is x read = (ap Some (sym read), subst P (sym read) is)
some_here P (y ∷ xs) (suc at) is x read = some_here P xs at is x read

-- the file at its first place
pub file_here : (name : List ℕ) (files : FileList) (at : ℕ) (file : List ℕ × List ℕ) → IsPlace name files at →
    file ≡ get_or files at file → file_of name files ≡ Some file.1
file_here name files at file place read =
    let here = some_here (λ f. bytes_eq name f.0 ≡ true) files at place.here file read in
    file_at name files at place.before file here.0 here.1

-- its bytes are set there
pub set_here : (name bytes : List ℕ) (files : FileList) (at : ℕ) (file : List ℕ × List ℕ) → IsPlace name files at →
    file ≡ get_or files at file → set files at (file.0, bytes) ≡ with_file name bytes files
set_here name bytes files at file place read =
    let here = some_here (λ f. bytes_eq name f.0 ≡ true) files at place.here file read in
    set_at name bytes files at place.before file here.0 here.1

-- what was put under a name is found there
found : (name bytes : List ℕ) (files : FileList) → file_of name (with_file name bytes files) ≡ Some bytes
found name bytes [] = ap (λ b. if b then Some bytes else None) (same_name name)
found name bytes (first ∷ files) = elim (cases_Bool (bytes_eq name first.0)) [
  | inl is ↦ ap (λ b. file_of name (if b then (first.0, bytes) ∷ files else first ∷ with_file name bytes files)) is
      ∙ ap (λ b. if b then Some bytes else file_of name files) is
  | inr is ↦ ap (λ b. file_of name (if b then (first.0, bytes) ∷ files else first ∷ with_file name bytes files)) is
      ∙ ap (λ b. if b then Some first.1 else file_of name (with_file name bytes files)) is
      ∙ found name bytes files
]

-- other files stay
stay : (name bytes : List ℕ) (files : FileList) → OthersStay name files (with_file name bytes files)
stay name bytes [] other differ = ap (λ b. if b then Some bytes else None) (other_name other name differ)
stay name bytes (first ∷ files) other differ = elim (cases_Bool (bytes_eq name first.0)) [
  | inl is ↦
      let differs : other ≢ first.0 = λ e. differ (e ∙ sym ((bytes_eq-Decides name first.0).0 is)) in
      let no = other_name other first.0 differs in
      ap (λ b. file_of other (if b then (first.0, bytes) ∷ files else first ∷ with_file name bytes files)) is
      ∙ ap (λ b. if b then Some bytes else file_of other files) no
      ∙ sym (ap (λ b. if b then Some first.1 else file_of other files) no)
  | inr is ↦ ap (λ b. file_of other (if b then (first.0, bytes) ∷ files else first ∷ with_file name bytes files)) is
      ∙ ap (λ found. if bytes_eq other first.0 then Some first.1 else found) (stay name bytes files other differ)
]

-- the file of a name is what was put there
pub file_is : (name bytes : List ℕ) (files : FileList) → FileIs name bytes files (with_file name bytes files)
file_is name bytes files = record { named = found name bytes files; others = stay name bytes files }
