-- The period as it is told, and that points with weights have no refusal.
use Rattle.std.proofs.Common.{◌≡◌, ◌<◌, ◌≤◌, ◌-◌, ◌^◌, ℕ, List, arith}
use Rattle.std.specs.Prelude.{Option, Some, None, IfSome, IfNone, min, unwrap_or}
use Rattle.ld_num.specs.declared.fraction.Frac.{Frac}
use Rattle.ld_segment.specs.Points.{IsFilled}
use Rattle.ld_segment.specs.Weights.{HasPeriod, IsLeastMultiple, IsPeriodRefusal, denominators, greatest_period}
use Rattle.ld_segment.specs.declared.fault.SegmentFault.{SegmentFault}
use Rattle.ld_segment.specs.declared.fault.SegmentFault.TheVariants.{Number, BelowZero, NotLess, AboveOne, Gap, FewPoints, PeriodTooLarge, TooMany, Memory}
use Rattle.ld_segment.proofs.WeightsPeriodLemmas.{period_from_points, period_unique}

-- the least common multiple of the denominators, capped, is the period, capped
pub capped : (points : List Frac) (found : Option ℕ) (result : ℕ) → IsFilled points →
    IfSome found (λ m. IsLeastMultiple (denominators points) m) →
    IfNone found ((m : ℕ) × IsLeastMultiple (denominators points) m × (2 ^ 64 ≤ m)) →
    result ≡ unwrap_or found (2 ^ 64 - 1) → result < 2 ^ 64 →
    (period : ℕ) × HasPeriod points period × (result ≡ min period (2 ^ 64 - 1))
capped points None result filled some none is fits =
    (none.0, period_from_points points none.0 filled none.1, omega (arith, none.2))
capped points (Some m) result filled some none is fits =
    (m, period_from_points points m filled some, omega arith)

pub not_refused : (points : List Frac) (m : ℕ) → IsFilled points → HasPeriod points m → m ≤ greatest_period →
    (fault : SegmentFault) → IsPeriodRefusal points fault → ⊥
not_refused points m filled has small (PeriodTooLarge n) refusal =
    let same = period_unique points m refusal.0 filled has refusal.1 in
    let large = refusal.2 in
    omega arith
not_refused points m filled has small (Number at fault) refusal = refusal
not_refused points m filled has small (BelowZero at) refusal = refusal
not_refused points m filled has small (NotLess at) refusal = refusal
not_refused points m filled has small (AboveOne at) refusal = refusal
not_refused points m filled has small (Gap at) refusal = refusal
not_refused points m filled has small FewPoints refusal = refusal
not_refused points m filled has small TooMany refusal = refusal
not_refused points m filled has small Memory refusal = refusal
