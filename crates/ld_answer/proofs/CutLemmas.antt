-- `stripe` over a segment and a sequence has one answer.
use Rattle.std.proofs.Common.{Vec, Global, ◌≡◌, ◌≢◌, ◌<◌, ◌≤◌, ◌∷◌, ◌++◌, ◌∙◌, [], inl, inr, ℕ, List, get_or, length, nat_eq, arith, sym, subst, ap}
use Rattle.std.specs.Prelude.{All, MatchResult, Option, Some, None, Result, Ok, Err, sum}
use Rattle.ld_num.specs.declared.fraction.Frac.{Frac}
use Rattle.ld_segment.specs.Refusal.{IsSegmentRefusal}
use Rattle.ld_segment.specs.Points.{IsFilled}
use Rattle.ld_segment.specs.Segments.{filled, given_points, most_segments, IsSequence}
use Rattle.ld_segment.specs.Values.{sequence_values}
use Rattle.ld_segment.specs.Weights.{greatest_period, HasWeights, IsPeriodRefusal}
use Rattle.ld_segment.specs.declared.fault.SegmentFault.{SegmentFault}
use Rattle.ld_segment.specs.declared.fault.SegmentFault.TheVariants.{Number, BelowZero, NotLess, AboveOne, Gap, FewPoints, PeriodTooLarge, TooMany}
use Rattle.ld_segment.specs.declared.fault.SegmentFault.TheVariants as cuts
use Rattle.ld_segment.proofs.FillingLemmas.{one_position}
use Rattle.ld_segment.proofs.ValueLemmas.{one_list_of_points}
use Rattle.ld_segment.proofs.WeightsLemmas.{weights_sum, weights_unique}
use Rattle.ld_segment.proofs.WeightsPeriodLemmas.{period_positive, period_unique}
use Rattle.ld_stripe.specs.StripeFault as stripe
use Rattle.ld_stripe.specs.Striping.{IsStripingOf, owned_indices}
use Rattle.ld_stripe.specs.declared.fault.StripeFault.{StripeFault}
use Rattle.ld_stripe.specs.declared.fault.StripeFault.TheVariants as stripes
use Rattle.std.proofs.lemmas.Bool.Decides.{nat_tests}
use Rattle.std.proofs.lemmas.List.Quantifiers.{position-Some}
use Rattle.ld_stripe.proofs.LowestTermsLemmas.{period_at_most, sum_positive}
use Rattle.ld_answer.specs.Cut.{sequence_line, segment_word, AreGiven, IsCut, IsCutRefusal, IsCutText, IsGivenRefusal, IsPartRefusal, IsPartText, RefusesCut, RefusesPart}
use Rattle.ld_answer.specs.Indices.{numbers_line}
use Rattle.ld_answer.specs.declared.refusal.Refusal.{Refusal}
use Rattle.ld_answer.specs.declared.refusal.Refusal.TheVariants.{Words, Stripe, NoSuchPosition, Segment, NotInSequence, Read, TooLong, Test, Plan, Memory}
use Rattle.ld_answer.proofs.StripeLemmas.{same_owners}

-- ---- words cut a test in one way

given_once : (sequence : Option (List ℕ)) (a b : Option (List Frac)) → AreGiven sequence a → AreGiven sequence b → a ≡ b
given_once None a b are other = are ∙ sym other
given_once (Some text) None b are other = absurd are
given_once (Some text) (Some ps) None are other = absurd other
given_once (Some text) (Some ps) (Some qs) are other = ap Some (one_list_of_points (sequence_values text) ps qs are other)

pub record SameCut (from to from' to' : Frac) (points points' : List Frac) : Type 0 where
  pub from_same : from ≡ from'
  pub to_same : to ≡ to'
  pub points_same : points ≡ points'

pub cut_once : (segment sequence : Option (List ℕ)) (from to from' to' : Frac) (points points' : List Frac) →
    IsCut segment sequence from to points → IsCut segment sequence from' to' points' → SameCut from to from' to' points points'
cut_once segment sequence from to from' to' points points' a b =
    let ends : from ∷ to ∷ [] ≡ from' ∷ to' ∷ [] = one_list_of_points _ _ _ a.segment_is b.segment_is in
    let given = given_once sequence a.given b.given a.given_are b.given_are in
    let from_same : from ≡ from' = cc in
    let to_same : to ≡ to' = cc in
    record {
      from_same = from_same;
      to_same = to_same;
      points_same =
          a.points_are
          ∙ ap (λ f. filled (given_points f to a.given)) from_same
          ∙ ap (λ t. filled (given_points from' t a.given)) to_same
          ∙ ap (λ g. filled (given_points from' to' g)) given
          ∙ sym b.points_are;
    }

-- ---- a text is no refusal

-- a sequence that has weights here isn't refused for its period
period_not_refused : (points : List Frac) (period : ℕ) (weights : List ℕ) → IsFilled points → HasWeights points period weights →
    period ≤ greatest_period → (f : SegmentFault) → IsPeriodRefusal points f → ⊥
period_not_refused points period weights whole has small (PeriodTooLarge n) refused =
    let same : period ≡ refused.0 = period_unique points period refused.0 whole has.has_period refused.1 in
    let large = refused.2 in
    omega arith
period_not_refused points period weights whole has small (Number at fault) refused = refused
period_not_refused points period weights whole has small (BelowZero at) refused = refused
period_not_refused points period weights whole has small (NotLess at) refused = refused
period_not_refused points period weights whole has small (AboveOne at) refused = refused
period_not_refused points period weights whole has small (Gap at) refused = refused
period_not_refused points period weights whole has small FewPoints refused = refused
period_not_refused points period weights whole has small TooMany refused = refused
period_not_refused points period weights whole has small cuts.Memory refused = refused

part_not_refused : (count : ℕ) (from to : Frac) (points : List Frac) (text : List ℕ) (r : Refusal) → IsFilled points →
    IsPartText count from to points text → IsPartRefusal from to points r → ⊥
part_not_refused count from to points text (Segment f) whole has refused =
    period_not_refused points has.period has.weights whole has.weighted has.small f refused.2
part_not_refused count from to points text NotInSequence whole has refused = refused has.position has.stands
part_not_refused count from to points text Read whole has refused = refused
part_not_refused count from to points text (TooLong place) whole has refused = refused
part_not_refused count from to points text (Test f) whole has refused = refused
part_not_refused count from to points text (Plan f) whole has refused = refused
part_not_refused count from to points text (Words place) whole has refused = refused
part_not_refused count from to points text (Stripe f) whole has refused = refused
part_not_refused count from to points text (NoSuchPosition p) whole has refused = refused
part_not_refused count from to points text Memory whole has refused = refused

-- the text of what is cut in one way is that of what is cut in the same way
same_part_text : (count : ℕ) (from to from' to' : Frac) (points points' : List Frac) (text : List ℕ) →
    SameCut from to from' to' points points' → IsPartText count from to points text → IsPartText count from' to' points' text
same_part_text count from to from' to' points points' text same has =
    subst (λ ps. IsPartText count from' to' ps text) same.points_same
    (subst (λ t. IsPartText count from' t points text) same.to_same
    (subst (λ f. IsPartText count f to points text) same.from_same has))

refused_part : (segment sequence : Option (List ℕ)) (count : ℕ) (text : List ℕ) (r : Refusal) →
    IsCutText count segment sequence text → RefusesPart segment sequence r → ⊥
refused_part segment sequence count text r has refused =
    let same = cut_once segment sequence has.from has.to refused.0 refused.1 has.points refused.2 has.cut refused.3 in
    part_not_refused count refused.0 refused.1 refused.2 text r refused.3.whole
    (same_part_text count has.from has.to refused.0 refused.1 has.points refused.2 text same has.part_text) refused.4

-- what has a text isn't refused
pub cut_text_not_refused : (count : ℕ) (segment sequence : Option (List ℕ)) (text : List ℕ) (r : Refusal) →
    IsCutText count segment sequence text → IsCutRefusal segment sequence r → ⊥
cut_text_not_refused count segment sequence text (Segment f) has refused = elim refused [
  | inl at_segment ↦ let accepted = has.cut.segment_accepted in accepted f at_segment
  | inr later ↦ elim later [
    | inl at_sequence ↦ let accepted = has.cut.sequence_accepted in accepted f at_sequence.1
    | inr at_part ↦ refused_part segment sequence count text (Segment f) has at_part
  ]
]
cut_text_not_refused count segment sequence text NotInSequence has refused = refused_part segment sequence count text NotInSequence has refused
cut_text_not_refused count segment sequence text Read has refused = refused
cut_text_not_refused count segment sequence text (TooLong place) has refused = refused
cut_text_not_refused count segment sequence text (Test f) has refused = refused
cut_text_not_refused count segment sequence text (Plan f) has refused = refused
cut_text_not_refused count segment sequence text (Words place) has refused = refused
cut_text_not_refused count segment sequence text (Stripe f) has refused = refused
cut_text_not_refused count segment sequence text (NoSuchPosition p) has refused = refused
cut_text_not_refused count segment sequence text Memory has refused = refused

-- want of memory is no refusal
pub cut_memory : (segment sequence : Option (List ℕ)) → IsCutRefusal segment sequence (Segment cuts.Memory) → ⊥
cut_memory segment sequence refused = elim refused [
  | inl at_segment ↦ segment_memory (segment_word segment) at_segment
  | inr later ↦ elim later [
    | inl at_sequence ↦ sequence_memory sequence at_sequence.1
    | inr at_part ↦ at_part.4.2
  ]
]
  where
    segment_memory : (text : List ℕ) → IsSegmentRefusal text cuts.Memory → ⊥
    segment_memory text (inl value) = value.refused
    segment_memory text (inr points) = points.2

    sequence_memory : (sequence : Option (List ℕ)) → IsGivenRefusal sequence cuts.Memory → ⊥
    sequence_memory None refused = refused
    sequence_memory (Some text) (inl value) = value.refused
    sequence_memory (Some text) (inr points) = points.2

-- ---- there is one text

one_part_text : (count : ℕ) (from to : Frac) (points : List Frac) (a b : List ℕ) → IsFilled points → IsSequence points →
    IsPartText count from to points a → IsPartText count from to points b → a ≡ b
one_part_text count from to points a b whole sequence ha hb =
    let position = one_position points ha.position hb.position (from, to) sequence ha.stands hb.stands in
    let weights : ha.weights ≡ hb.weights = weights_unique points ha.period hb.period ha.weights hb.weights whole ha.weighted hb.weighted in
    let total = weights_sum hb.period points hb.weights whole hb.weighted in
    let positive = period_positive points hb.period hb.weighted.has_period in
    let owners : ha.striping.owners ≡ hb.striping.owners =
    same_owners hb.weights ha.striping hb.striping (omega arith)
    (subst (λ ws. IsStripingOf ws ha.striping) weights ha.striped) hb.striped in
    ha.text_is
    ∙ ap (λ os. sequence_line points ++ numbers_line (owned_indices os ha.position count)) owners
    ∙ ap (λ p. sequence_line points ++ numbers_line (owned_indices hb.striping.owners p count)) position
    ∙ sym hb.text_is

pub one_cut_text : (count : ℕ) (segment sequence : Option (List ℕ)) (a b : List ℕ) → IsCutText count segment sequence a →
    IsCutText count segment sequence b → a ≡ b
one_cut_text count segment sequence a b ha hb =
    let same = cut_once segment sequence ha.from ha.to hb.from hb.to ha.points hb.points ha.cut hb.cut in
    one_part_text count hb.from hb.to hb.points a b hb.cut.whole hb.cut.sequence_is
    (same_part_text count ha.from ha.to hb.from hb.to ha.points hb.points a same ha.part_text) hb.part_text

-- ---- what the code finds

-- the striping doesn't refuse the weights of a filled sequence
pub striping_accepts : (weights : List ℕ) → 0 < length weights → length weights ≤ most_segments → All (λ w. 0 < w) weights →
    sum weights ≤ greatest_period → (f : StripeFault) → stripe.IsRefusal weights f → ⊥
striping_accepts weights some few weighted small stripes.NoWeights refused = let none = ap length refused in omega arith
striping_accepts weights some few weighted small stripes.TooMany refused = omega arith
striping_accepts weights some few weighted small (stripes.ZeroWeight p) refused =
    let found = position-Some (λ w. nat_eq w 0) weights p 0 refused.1 in
    let test = found.1 in
    let zero : get_or weights p 0 ≡ 0 = grind (arith, nat_tests) in
    let above : 0 < get_or weights p 0 = weighted p 0 found.0 in
    omega arith
striping_accepts weights some few weighted small (stripes.PeriodTooLarge n) refused =
    let positive = sum_positive weights some weighted in
    let most = period_at_most weights refused.2.0 positive refused.2.1 in
    let large = refused.2.2 in
    omega arith
striping_accepts weights some few weighted small stripes.Memory refused = refused

-- weights of a filled sequence are accepted
pub weights_accepted : (points : List Frac) (weights : List ℕ) → HasWeights points (sum weights) weights → sum weights ≤ greatest_period →
    length weights ≤ most_segments → All (λ w. 0 < w) weights → (f : StripeFault) → stripe.IsRefusal weights f → ⊥
weights_accepted points weights has small few weighted f refused =
    let positive = period_positive points (sum weights) has.has_period in
    striping_accepts weights (some weights positive) few weighted small f refused
  where
    some : (weights : List ℕ) → 0 < sum weights → 0 < length weights
    some [] positive = absurd (omega arith)
    some (w ∷ ws) positive = omega arith

-- the answer to what is cut is the answer to the words
pub cut_answer : (count : ℕ) (segment sequence : Option (List ℕ)) (from to : Frac) (points : List Frac) → IsCut segment sequence from to points →
    (result : Result (Vec ℕ Global) Refusal) →
    MatchResult result (λ text. IsPartText count from to points text.items) (λ r. r ≢ Memory → IsPartRefusal from to points r) →
    MatchResult result (λ text. IsCutText count segment sequence text.items) (λ r. r ≢ Memory → IsCutRefusal segment sequence r)
cut_answer count segment sequence from to points cut (Ok text) has = record {
  from = from;
  to = to;
  points = points;
  cut = cut;
  part_text = has;
}
cut_answer count segment sequence from to points cut (Err r) refused = λ named. part_refused r (refused named)
  where
    part_refused : (r : Refusal) → IsPartRefusal from to points r → IsCutRefusal segment sequence r
    part_refused (Segment f) refused = inr (inr (from, to, points, cut, refused))
    part_refused NotInSequence refused = (from, to, points, cut, refused)
    part_refused Read refused = refused
    part_refused (TooLong place) refused = refused
    part_refused (Test f) refused = refused
    part_refused (Plan f) refused = refused
    part_refused (Words place) refused = refused
    part_refused (Stripe f) refused = refused
    part_refused (NoSuchPosition p) refused = refused
    part_refused Memory refused = refused

-- what is cut isn't refused
pub cut_not_refused : (segment sequence : Option (List ℕ)) (from to : Frac) (points : List Frac) (f : SegmentFault) →
    IsCut segment sequence from to points → RefusesCut segment sequence f → ⊥
cut_not_refused segment sequence from to points f cut (inl refused) = cut.segment_accepted f refused
cut_not_refused segment sequence from to points f cut (inr refused) = cut.sequence_accepted f refused.1

-- what can't be cut is refused
pub cut_refused : (segment sequence : Option (List ℕ)) (f : SegmentFault) → RefusesCut segment sequence f → IsCutRefusal segment sequence (Segment f)
cut_refused segment sequence f (inl refused) = inl refused
cut_refused segment sequence f (inr refused) = inr (inl refused)
