-- A set of numbers below a limit, as it is seen.
use Rattle.std.specs.Prelude.{◌==◌, ℕ, Bool, not, List, [], ◌∷◌, filter, if◌then◌else◌, nat_lt}
use Rattle.std.specs.List.{list_any}

-- a set as contracts see it: the numbers that are in it, each above the one before, and the limit that they are below
pub record SetView : Type 0 where
  pub numbers : List ℕ
  pub limit : ℕ

-- whether the number is one of these
abbrev pub is_among : List ℕ → ℕ → Bool
is_among numbers number = list_any (λ k. k == number) numbers

-- the numbers with this one, which is put before the first that is above it; where it is there, nothing changes
abbrev pub with_number : ℕ → List ℕ → List ℕ
with_number number [] = number ∷ []
with_number number (k ∷ rest) =
    if nat_lt k number then k ∷ with_number number rest else (if k == number then k ∷ rest else number ∷ k ∷ rest)

-- the numbers without this one
abbrev pub without_number : ℕ → List ℕ → List ℕ
without_number number numbers = filter (λ k. not (k == number)) numbers
