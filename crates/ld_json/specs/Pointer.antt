-- JSON Pointers (RFC 6901): the text that says where a value stands in a document.
use Rattle.std.specs.Prelude.{ℕ, ◌==◌, List, [], ◌∷◌, ◌++◌, if◌then◌else◌, decimal, flat_map}

-- a byte of a name: `~` is written `~0`, and `/` is written `~1`
abbrev pub letter : ℕ → List ℕ
letter b = if b == 126 then 126 ∷ 48 ∷ [] else (if b == 47 then 126 ∷ 49 ∷ [] else b ∷ [])

-- a name, letter by letter
abbrev pub escaped : List ℕ → List ℕ
escaped name = flat_map letter name

-- the path of a member of the object at this path
abbrev pub member_path : List ℕ → List ℕ → List ℕ
member_path path name = path ++ 47 ∷ escaped name

-- the path of an element of the list at this path
abbrev pub item_path : List ℕ → ℕ → List ℕ
item_path path index = path ++ 47 ∷ decimal index
