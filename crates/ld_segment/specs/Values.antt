-- How segments and sequences are written, and which points their texts stand for.
use Rattle.std.specs.Prelude.{◌≡◌, ◌==◌, ℕ, List, [], ◌∷◌, Some, codes, if◌then◌else◌, slice_get}
use Rattle.std.specs.List.{before_first, after_first, slice_split}
use Rattle.ld_num.specs.Written.{Written, IsWritten}
use Rattle.ld_num.specs.Reading.{IsValueOf}
use Rattle.ld_num.specs.Shape.{has}
use Rattle.ld_num.specs.declared.fraction.Frac.{Frac}

-- the bytes , - :
abbrev pub comma : ℕ
comma = 44

abbrev pub minus : ℕ
minus = 45

abbrev pub colon : ℕ
colon = 58

-- The values of a segment stand before and behind the first colon. A text without one is short for `0:x`.
abbrev pub segment_values : List ℕ → List (List ℕ)
segment_values text =
    if has colon text then before_first (λ b. b == colon) text ∷ after_first (λ b. b == colon) text ∷ []
    else codes "0" ∷ text ∷ []

-- the values of a sequence stand between its commas
abbrev pub sequence_values : List ℕ → List (List ℕ)
sequence_values text = slice_split (λ b. b == comma) text

-- a value has a sign
abbrev pub IsSigned : List ℕ → Type 0
IsSigned value = slice_get value 0 ≡ Some minus

-- the point is what the value is written for
abbrev pub IsPoint : List ℕ → Frac → Type 0
IsPoint value point = (written : Written) × IsWritten value written × IsValueOf written point

-- the points are what the values are written for, one for each
abbrev pub ArePoints : List (List ℕ) → List Frac → Type 0
ArePoints [] [] = Unit {0}
ArePoints [] (_ ∷ _) = ⊥
ArePoints (_ ∷ _) [] = ⊥
ArePoints (value ∷ values) (point ∷ points) = IsPoint value point × ArePoints values points
