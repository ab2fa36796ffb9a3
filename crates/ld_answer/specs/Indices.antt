-- The text of the indices that a position owns.
use Rattle.std.specs.Prelude.{◌∷◌, ◌++◌, [], ℕ, Bool, true, false, List, map, decimal}
use Rattle.std.specs.List.{join_with_byte}

-- the numbers, joined by one space
abbrev pub spaced : List ℕ → List ℕ
spaced numbers = join_with_byte 32 (map decimal numbers)

-- a line of numbers, joined by one space
abbrev pub numbers_line : List ℕ → List ℕ
numbers_line numbers = spaced numbers ++ 10 ∷ []

-- a number as it stands in a line: behind one space where it follows another
abbrev pub item : Bool → ℕ → List ℕ
item true number = 32 ∷ decimal number
item false number = decimal number
