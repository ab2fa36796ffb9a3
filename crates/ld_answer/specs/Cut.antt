-- What `stripe` prints, and why it is refused: in its second form, over a segment and a sequence.
use Rattle.std.specs.Prelude.{◌≡◌, ◌≤◌, ◌∷◌, ◌++◌, ◌⊎◌, [], ℕ, List, Option, Some, None, codes, slice_get, unwrap_or}
use Rattle.ld_num.specs.declared.fraction.Frac.{Frac}
use Rattle.ld_segment.specs.Points.{IsFilled}
use Rattle.ld_segment.specs.Printed.{sequence_text}
use Rattle.ld_segment.specs.Refusal.{IsSegmentRefusal, IsSequenceRefusal}
use Rattle.ld_segment.specs.Segments.{filled, given_points, segments_of, IsSequence}
use Rattle.ld_segment.specs.Values.{segment_values, sequence_values, ArePoints}
use Rattle.ld_segment.specs.Weights.{greatest_period, HasWeights, IsPeriodRefusal}
use Rattle.ld_segment.specs.declared.fault.SegmentFault.{SegmentFault}
use Rattle.ld_stripe.specs.Striping.{IsStripingOf, Striping, owned_indices}
use Rattle.ld_answer.specs.Indices.{numbers_line}
use Rattle.ld_answer.specs.declared.refusal.Refusal.{Refusal}
use Rattle.ld_answer.specs.declared.refusal.Refusal.TheVariants.{Words, Stripe, NoSuchPosition, Segment, NotInSequence, Read, TooLong, Test, Plan, Memory}

-- a missing segment is the whole test
abbrev pub segment_word : Option (List ℕ) → List ℕ
segment_word segment = unwrap_or segment (codes "0:1")

abbrev pub SegmentAccepted : Option (List ℕ) → Type 0
SegmentAccepted segment = (f : SegmentFault) → IsSegmentRefusal (segment_word segment) f → ⊥

-- a sequence that isn't given isn't refused
abbrev pub IsGivenRefusal : Option (List ℕ) → SegmentFault → Type 0
IsGivenRefusal None f = ⊥
IsGivenRefusal (Some text) f = IsSequenceRefusal text f

abbrev pub SequenceAccepted : Option (List ℕ) → Type 0
SequenceAccepted sequence = (f : SegmentFault) → IsGivenRefusal sequence f → ⊥

-- the points of the sequence as they are given
abbrev pub AreGiven : Option (List ℕ) → Option (List Frac) → Type 0
AreGiven None points = points ≡ None
AreGiven (Some text) None = ⊥
AreGiven (Some text) (Some points) = ArePoints (sequence_values text) points

-- how the words cut a test: the segment from a point to another, and the filled sequence. Where none is
-- given it is filled round the segment
pub record IsCut (segment sequence : Option (List ℕ)) (from to : Frac) (points : List Frac) : Type 0 where
  pub segment_accepted : SegmentAccepted segment
  pub segment_is : ArePoints (segment_values (segment_word segment)) (from ∷ to ∷ [])
  pub sequence_accepted : SequenceAccepted sequence
  pub given : Option (List Frac)
  pub given_are : AreGiven sequence given
  pub points_are : points ≡ filled (given_points from to given)
  pub whole : IsFilled points
  pub sequence_is : IsSequence points

-- the segment stands at this position of the sequence
abbrev pub StandsAt : Frac → Frac → List Frac → ℕ → Type 0
StandsAt from to points position = slice_get (segments_of points) position ≡ Some (from, to)

-- the line of a filled sequence
abbrev pub sequence_line : List Frac → List ℕ
sequence_line points = codes "sequence " ++ sequence_text points ++ 10 ∷ []

-- the text of a segment of a filled sequence: its line, and that of the indices that the segment owns in
-- the striping of the sequence's weights
pub record IsPartText (count : ℕ) (from to : Frac) (points : List Frac) (text : List ℕ) : Type 0 where
  pub position : ℕ
  pub stands : StandsAt from to points position
  pub period : ℕ
  pub weights : List ℕ
  pub weighted : HasWeights points period weights
  pub small : period ≤ greatest_period
  pub striping : Striping
  pub striped : IsStripingOf weights striping
  pub text_is : text ≡ sequence_line points ++ numbers_line (owned_indices striping.owners position count)

-- it is refused so: because the sequence has no segment that is equal, or else for its period
abbrev pub IsPartRefusal : Frac → Frac → List Frac → Refusal → Type 0
IsPartRefusal from to points NotInSequence = (position : ℕ) → StandsAt from to points position → ⊥
IsPartRefusal from to points (Segment f) =
    (position : ℕ) × StandsAt from to points position × IsPeriodRefusal points f
IsPartRefusal from to points (Words place) = ⊥
IsPartRefusal from to points (Stripe f) = ⊥
IsPartRefusal from to points (NoSuchPosition p) = ⊥
IsPartRefusal from to points Read = ⊥
IsPartRefusal from to points (TooLong place) = ⊥
IsPartRefusal from to points (Test f) = ⊥
IsPartRefusal from to points (Plan f) = ⊥
IsPartRefusal from to points Memory = ⊥

-- the text of what the words cut
pub record IsCutText (count : ℕ) (segment sequence : Option (List ℕ)) (text : List ℕ) : Type 0 where
  pub from : Frac
  pub to : Frac
  pub points : List Frac
  pub cut : IsCut segment sequence from to points
  pub part_text : IsPartText count from to points text

-- it is refused so, in this order: for the segment, for the sequence, and for what they cut
abbrev pub RefusesPart : Option (List ℕ) → Option (List ℕ) → Refusal → Type 0
RefusesPart segment sequence r =
    (from : Frac) × (to : Frac) × (points : List Frac)
    × IsCut segment sequence from to points × IsPartRefusal from to points r

-- it is refused so before it is cut: the segment, and then the sequence
abbrev pub RefusesCut : Option (List ℕ) → Option (List ℕ) → SegmentFault → Type 0
RefusesCut segment sequence f = IsSegmentRefusal (segment_word segment) f ⊎ (SegmentAccepted segment × IsGivenRefusal sequence f)

abbrev pub IsCutRefusal : Option (List ℕ) → Option (List ℕ) → Refusal → Type 0
IsCutRefusal segment sequence (Segment f) =
    IsSegmentRefusal (segment_word segment) f
    ⊎ ((SegmentAccepted segment × IsGivenRefusal sequence f) ⊎ RefusesPart segment sequence (Segment f))
IsCutRefusal segment sequence NotInSequence = RefusesPart segment sequence NotInSequence
IsCutRefusal segment sequence (Words place) = ⊥
IsCutRefusal segment sequence (Stripe f) = ⊥
IsCutRefusal segment sequence (NoSuchPosition p) = ⊥
IsCutRefusal segment sequence Read = ⊥
IsCutRefusal segment sequence (TooLong place) = ⊥
IsCutRefusal segment sequence (Test f) = ⊥
IsCutRefusal segment sequence (Plan f) = ⊥
IsCutRefusal segment sequence Memory = ⊥
