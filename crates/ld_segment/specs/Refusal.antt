-- When the texts of segments and sequences are refused, and when segments form no sequence.
use Rattle.std.specs.Prelude.{◌≡◌, ◌≢◌, ◌<◌, ◌≤◌, ◌+◌, ◌⊎◌, ℕ, List, [], ◌∷◌, Some, length, map, take, slice_get}
use Rattle.std.specs.List.{AllByRecursion}
use Rattle.ld_num.specs.Reading.{IsRefusal}
use Rattle.ld_num.specs.declared.fraction.Frac.{Frac}
use Rattle.ld_segment.specs.Points.{IsAtMostOne, Rise}
use Rattle.ld_segment.specs.Segments.{filled, most_segments, segments_of}
use Rattle.ld_segment.specs.Values.{ArePoints, IsSigned, segment_values, sequence_values}
use Rattle.ld_segment.specs.declared.fault.SegmentFault.{SegmentFault}
use Rattle.ld_segment.specs.declared.fault.SegmentFault.TheVariants.{Number, BelowZero, NotLess, AboveOne, Gap, FewPoints, PeriodTooLarge, TooMany, Memory}
use Rattle.ld_segment.specs.declared.segment.Segment.{Segment}

-- what stands before this place meets a fact, and with what stands there it doesn't
abbrev pub EndsAt : {X : Type 0} → (List X → Type 0) → List X → ℕ → Type 0
EndsAt P items place = P (take place items) × (P (take (place + 1) items) → ⊥)

-- a value is refused for its sign, or else as a number
abbrev pub RefusesValue : List ℕ → ℕ → SegmentFault → Type 0
RefusesValue value place (BelowZero at) = (at ≡ place) × IsSigned value
RefusesValue value place (Number at fault) = (at ≡ place) × (IsSigned value → ⊥) × IsRefusal value fault
RefusesValue value place (NotLess at) = ⊥
RefusesValue value place (AboveOne at) = ⊥
RefusesValue value place (Gap at) = ⊥
RefusesValue value place FewPoints = ⊥
RefusesValue value place (PeriodTooLarge period) = ⊥
RefusesValue value place TooMany = ⊥
RefusesValue value place Memory = ⊥

-- the first of the values that is refused decides
pub record RefusesFirst (values : List (List ℕ)) (fault : SegmentFault) : Type 0 where
  pub place : ℕ
  pub value : List ℕ
  pub stands : slice_get values place ≡ Some value
  pub points_before : List Frac
  pub before : ArePoints (take place values) points_before
  pub refused : RefusesValue value place fault

-- each point is at most 1
abbrev pub AreAtMostOne : List Frac → Type 0
AreAtMostOne points = AllByRecursion IsAtMostOne points

-- points are refused at the first that is above 1, or else at the first that isn't above the one before it
abbrev pub RefusesPoints : List Frac → SegmentFault → Type 0
RefusesPoints points (AboveOne at) = EndsAt AreAtMostOne points at
RefusesPoints points (NotLess at) = AreAtMostOne points × EndsAt Rise points at
RefusesPoints points (Number at fault) = ⊥
RefusesPoints points (BelowZero at) = ⊥
RefusesPoints points (Gap at) = ⊥
RefusesPoints points FewPoints = ⊥
RefusesPoints points (PeriodTooLarge period) = ⊥
RefusesPoints points TooMany = ⊥
RefusesPoints points Memory = ⊥

-- the text of a segment is refused: a value of it, or else its points
abbrev pub IsSegmentRefusal : List ℕ → SegmentFault → Type 0
IsSegmentRefusal text fault =
    RefusesFirst (segment_values text) fault
    ⊎ ((points : List Frac) × ArePoints (segment_values text) points × RefusesPoints points fault)

-- The points of a sequence are refused where they are fewer than two, as points are, and where they
-- have too many segments when filled, in this order.
abbrev pub HaveTooMany : List Frac → Type 0
HaveTooMany points = most_segments < length (segments_of (filled points))

abbrev pub RefusesSequence : List Frac → SegmentFault → Type 0
RefusesSequence points FewPoints = length points < 2
RefusesSequence points (AboveOne at) = (2 ≤ length points) × RefusesPoints points (AboveOne at)
RefusesSequence points (NotLess at) = (2 ≤ length points) × RefusesPoints points (NotLess at)
RefusesSequence points TooMany = (2 ≤ length points) × AreAtMostOne points × Rise points × HaveTooMany points
RefusesSequence points (Number at fault) = ⊥
RefusesSequence points (BelowZero at) = ⊥
RefusesSequence points (Gap at) = ⊥
RefusesSequence points (PeriodTooLarge period) = ⊥
RefusesSequence points Memory = ⊥

-- the text of a sequence is refused: a value of it, or else its points
abbrev pub IsSequenceRefusal : List ℕ → SegmentFault → Type 0
IsSequenceRefusal text fault =
    RefusesFirst (sequence_values text) fault
    ⊎ ((points : List Frac) × ArePoints (sequence_values text) points × RefusesSequence points fault)

-- the points at which a segment begins and ends
abbrev pub ends : Segment → Frac × Frac
ends segment = (segment.from, segment.to)

-- each segment begins where the one before it ends
abbrev pub Meet : List Segment → Type 0
Meet [] = Unit {0}
Meet (s ∷ []) = Unit {0}
Meet (s ∷ t ∷ rest) = (s.to ≡ t.from) × Meet (t ∷ rest)

-- Segments form no sequence where there are none, at the first that doesn't begin where the one before
-- it ends, and where there are too many when filled, in this order.
abbrev pub IsPartsRefusal : List Segment → SegmentFault → Type 0
IsPartsRefusal parts FewPoints = parts ≡ []
IsPartsRefusal parts (Gap at) = EndsAt Meet parts at
IsPartsRefusal parts TooMany =
    (parts ≢ []) × ((points : List Frac) × (segments_of points ≡ map ends parts) × HaveTooMany points)
IsPartsRefusal parts (Number at fault) = ⊥
IsPartsRefusal parts (BelowZero at) = ⊥
IsPartsRefusal parts (NotLess at) = ⊥
IsPartsRefusal parts (AboveOne at) = ⊥
IsPartsRefusal parts (PeriodTooLarge period) = ⊥
IsPartsRefusal parts Memory = ⊥
