-- The segments between points, and how points are filled up to cut the whole test.
use Rattle.std.specs.Prelude.{◌≤◌, ◌==◌, ◌++◌, ℕ, List, [], ◌∷◌, Option, Some, None, length, if◌then◌else◌}
use Rattle.std.specs.List.{AllByRecursion}
use Rattle.std.proofs.Math.Dec.{lit≤}
use Rattle.std.proofs.Math.Nat.{eq-one_of_dvd-one}
use Rattle.ld_num.specs.declared.fraction.Frac.{Frac}
use Rattle.ld_segment.specs.Points.{Rise, IsAtMostOne}

-- the points 0 and 1
abbrev pub zero_point : Frac
zero_point = record { num = 0; den = 1; positive = lit≤ tt; lowest = λ d of_zero of_one. eq-one_of_dvd-one of_one }

abbrev pub one_point : Frac
one_point = record { num = 1; den = 1; positive = lit≤ tt; lowest = λ d of_num of_den. eq-one_of_dvd-one of_den }

-- a segment begins at one point and ends at the next
abbrev pub segments_of : List Frac → List (Frac × Frac)
segments_of [] = []
segments_of (p ∷ []) = []
segments_of (p ∷ q ∷ rest) = (p, q) ∷ segments_of (q ∷ rest)

-- what the points lack in front, and behind
abbrev pub lacking_front : List Frac → List Frac
lacking_front [] = zero_point ∷ []
lacking_front (p ∷ _) = if p.num == 0 then [] else zero_point ∷ []

abbrev pub lacking_behind : List Frac → List Frac
lacking_behind [] = one_point ∷ []
lacking_behind (p ∷ []) = if p.num == p.den then [] else one_point ∷ []
lacking_behind (_ ∷ q ∷ rest) = lacking_behind (q ∷ rest)

-- the points, filled with one segment at each side where they don't begin at 0 or end at 1
abbrev pub filled : List Frac → List Frac
filled points = lacking_front points ++ points ++ lacking_behind points

-- the greatest number of segments of a filled sequence
abbrev pub most_segments : ℕ
most_segments = 100

-- points are a sequence: two or more, which rise, are at most 1, and have few enough segments when filled
pub record IsSequence (points : List Frac) : Type 0 where
  pub some : 2 ≤ length points
  pub rises : Rise points
  pub at_most_one : AllByRecursion IsAtMostOne points
  pub few : length (segments_of (filled points)) ≤ most_segments

-- the points that are to be filled: those of the sequence, and where there is none the segment's
abbrev pub given_points : Frac → Frac → Option (List Frac) → List Frac
given_points from to (Some points) = points
given_points from to None = from ∷ to ∷ []
