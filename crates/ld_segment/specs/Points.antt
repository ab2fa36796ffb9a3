-- Points of a test: fractions from 0 to 1 at which it is cut.
use Rattle.std.specs.Prelude.{◌≡◌, ◌<◌, ◌≤◌, ◌*◌, List, [], ◌∷◌}
use Rattle.ld_num.specs.Terms.{AreCoprime}
use Rattle.ld_num.specs.declared.fraction.Frac.{Frac}

-- a fraction in lowest terms
pub record IsLowest (p : Frac) : Type 0 where
  pub positive : 1 ≤ p.den
  pub lowest : AreCoprime p.num p.den

-- the value of the one is below that of the other
abbrev pub IsBelow : Frac → Frac → Type 0
IsBelow p q = p.num * q.den < q.num * p.den

-- the value is 0, 1, or at most 1
abbrev pub IsZero : Frac → Type 0
IsZero p = p.num ≡ 0

abbrev pub IsOne : Frac → Type 0
IsOne p = p.num ≡ p.den

abbrev pub IsAtMostOne : Frac → Type 0
IsAtMostOne p = p.num ≤ p.den

-- each point is above the one before it
abbrev pub Rise : List Frac → Type 0
Rise [] = Unit {0}
Rise (p ∷ []) = Unit {0}
Rise (p ∷ q ∷ rest) = IsBelow p q × Rise (q ∷ rest)

-- the first of the points, and the last
abbrev pub BeginsAtZero : List Frac → Type 0
BeginsAtZero [] = ⊥
BeginsAtZero (p ∷ _) = IsZero p

abbrev pub EndsAtOne : List Frac → Type 0
EndsAtOne [] = ⊥
EndsAtOne (p ∷ []) = IsOne p
EndsAtOne (_ ∷ q ∷ rest) = EndsAtOne (q ∷ rest)

-- points that cut the whole test: they rise from 0 to 1
pub record IsFilled (points : List Frac) : Type 0 where
  pub rises : Rise points
  pub begins : BeginsAtZero points
  pub ends : EndsAtOne points
