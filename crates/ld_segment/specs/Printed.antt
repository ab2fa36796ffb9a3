-- How segments and sequences are printed.
use Rattle.std.specs.Prelude.{◌≡◌, ◌==◌, ◌<◌, ◌^◌, Bool, ℕ, List, ◌∷◌, ◌++◌, decimal, map, if◌then◌else◌}
use Rattle.std.specs.List.{join_with_byte}
use Rattle.ld_num.specs.Written.{stroke}
use Rattle.ld_num.specs.declared.fraction.Frac.{Frac}
use Rattle.ld_segment.specs.Values.{colon, comma}

-- a whole number is its digits, and another a quotient
abbrev pub point_text : Frac → List ℕ
point_text p = if p.den == 1 then decimal p.num else decimal p.num ++ stroke ∷ decimal p.den

-- the two points of a segment, with a colon between them
abbrev pub segment_text : Frac → Frac → List ℕ
segment_text from to = point_text from ++ colon ∷ point_text to

-- the points of a sequence, joined by commas
abbrev pub sequence_text : List Frac → List ℕ
sequence_text points = join_with_byte comma (map point_text points)

-- a point behind a comma, where it follows another
abbrev pub next_text : Bool → Frac → List ℕ
next_text follows p = if follows then comma ∷ point_text p else point_text p

-- there is nothing else than more behind it
abbrev pub Grows : List ℕ → List ℕ → Type 0
Grows before after = (more : List ℕ) × (after ≡ before ++ more)

-- each number of the point has nine digits at most
pub record IsShort (p : Frac) : Type 0 where
  pub num : p.num < 10 ^ 9
  pub den : p.den < 10 ^ 9
