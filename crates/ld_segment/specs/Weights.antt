-- The weights of the positions of a filled sequence: their lengths, over one common denominator.
use Rattle.std.specs.Prelude.{◌≡◌, ◌<◌, ◌+◌, ◌-◌, ◌*◌, ◌^◌, ℕ, List, [], ◌∷◌, All, map, min}
use Rattle.std.specs.List.{AllZip}
use Rattle.std.specs.Int.{◌∣◌}
use Rattle.ld_num.specs.declared.fraction.Frac.{Frac}
use Rattle.ld_segment.specs.declared.fault.SegmentFault.{SegmentFault}
use Rattle.ld_segment.specs.declared.fault.SegmentFault.TheVariants.{Number, BelowZero, NotLess, AboveOne, Gap, FewPoints, PeriodTooLarge, TooMany, Memory}

-- the greatest period that a sequence may have
abbrev pub greatest_period : ℕ
greatest_period = 100000

-- the length of the position between two points is their difference: from and the length make to
abbrev pub IsLength : Frac → Frac → Frac → Type 0
IsLength from to span =
    (from.num * span.den + span.num * from.den) * to.den ≡ to.num * (from.den * span.den)

-- the lengths of all positions, each between a point and the next
abbrev pub AreLengths : List Frac → List Frac → Type 0
AreLengths [] [] = Unit {0}
AreLengths (p ∷ []) [] = Unit {0}
AreLengths (p ∷ q ∷ rest) (span ∷ spans) = IsLength p q span × AreLengths (q ∷ rest) spans
AreLengths _ _ = ⊥

-- the denominators of fractions in lowest terms
abbrev pub denominators : List Frac → List ℕ
denominators fractions = map (λ p. p.den) fractions

-- each of the numbers divides the multiple
abbrev pub AllDivide : List ℕ → ℕ → Type 0
AllDivide numbers multiple = All (λ n. n ∣ multiple) numbers

-- the least common multiple of numbers: each divides it, and it divides each number that all divide
pub record IsLeastMultiple (numbers : List ℕ) (multiple : ℕ) : Type 0 where
  pub of_each : AllDivide numbers multiple
  pub least : (other : ℕ) → AllDivide numbers other → multiple ∣ other

-- the period of the pattern: the least common multiple of the denominators of the lengths
pub record HasPeriod (points : List Frac) (period : ℕ) : Type 0 where
  pub spans : List Frac
  pub are_lengths : AreLengths points spans
  pub is_least : IsLeastMultiple (denominators spans) period

-- the weight of a position: its length times the period
abbrev pub IsWeight : ℕ → Frac → ℕ → Type 0
IsWeight period span weight = weight * span.den ≡ span.num * period

-- the weights of all positions, in order
pub record HasWeights (points : List Frac) (period : ℕ) (weights : List ℕ) : Type 0 where
  pub has_period : HasPeriod points period
  pub each : AllZip (IsWeight period) has_period.spans weights

-- The points have no weights here, with this fault: their period is too large, and the number that
-- is told is the period, or 2^64 - 1 where that is less.
abbrev pub IsPeriodRefusal : List Frac → SegmentFault → Type 0
IsPeriodRefusal points (PeriodTooLarge n) =
    (period : ℕ) × HasPeriod points period × (greatest_period < period) × (n ≡ min period (2 ^ 64 - 1))
IsPeriodRefusal points (Number at fault) = ⊥
IsPeriodRefusal points (BelowZero at) = ⊥
IsPeriodRefusal points (NotLess at) = ⊥
IsPeriodRefusal points (AboveOne at) = ⊥
IsPeriodRefusal points (Gap at) = ⊥
IsPeriodRefusal points FewPoints = ⊥
IsPeriodRefusal points TooMany = ⊥
IsPeriodRefusal points Memory = ⊥
