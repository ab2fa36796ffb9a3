-- What is accepted isn't refused.
use Rattle.std.proofs.Common.{◌≡◌, ◌≢◌, ◌<◌, ◌+◌, ◌∙◌, [], ℕ, List, length, map, arith, ap, sym, subst, inl, inr}
use Rattle.std.specs.Prelude.{Result, Ok, Err, IfOk}
use Rattle.ld_num.specs.declared.fraction.Frac.{Frac}
use Rattle.ld_segment.specs.Points.{Rise}
use Rattle.ld_segment.specs.Segments.{segments_of, IsSequence}
use Rattle.ld_segment.specs.Values.{ArePoints, segment_values, sequence_values}
use Rattle.ld_segment.specs.Refusal.{AreAtMostOne, Meet, HaveTooMany, IsPartsRefusal, IsSegmentRefusal, IsSequenceRefusal, RefusesPoints, RefusesSequence, ends}
use Rattle.ld_segment.specs.declared.segment.Segment.{Segment}
use Rattle.ld_segment.specs.declared.fault.SegmentFault.{SegmentFault}
use Rattle.ld_segment.specs.declared.fault.SegmentFault.TheVariants.{Number, BelowZero, NotLess, AboveOne, Gap, FewPoints, PeriodTooLarge, TooMany, Memory}
use Rattle.ld_segment.proofs.FillingLemmas.{length_segments}
use Rattle.ld_segment.proofs.RiseLemmas.{meet_front, points_not_refused}
use Rattle.ld_segment.proofs.ValueLemmas.{first_not_refused, one_list_of_points}
use Rattle.ld_segment.proofs.PartLemmas.{one_list}

pub segment_accepted : (text : List ℕ) (ps : List Frac) → ArePoints (segment_values text) ps → AreAtMostOne ps → Rise ps →
    (f : SegmentFault) → IsSegmentRefusal text f → ⊥
segment_accepted text ps are all rise f (inl refused) = first_not_refused (segment_values text) ps are f refused
segment_accepted text ps are all rise f (inr refused) =
    points_not_refused ps all rise f
    (subst (λ qs. RefusesPoints qs f) (one_list_of_points (segment_values text) refused.0 ps refused.1 are) refused.2)

sequence_not_refused : (ps : List Frac) → IsSequence ps → (f : SegmentFault) → RefusesSequence ps f → ⊥
sequence_not_refused ps is FewPoints refused = let two = is.some in omega arith
sequence_not_refused ps is (AboveOne at) refused = points_not_refused ps is.at_most_one is.rises (AboveOne at) refused.1
sequence_not_refused ps is (NotLess at) refused = points_not_refused ps is.at_most_one is.rises (NotLess at) refused.1
sequence_not_refused ps is TooMany refused = let few = is.few in let many = refused.3 in omega arith
sequence_not_refused ps is (Number at fault) refused = refused
sequence_not_refused ps is (BelowZero at) refused = refused
sequence_not_refused ps is (Gap at) refused = refused
sequence_not_refused ps is (PeriodTooLarge period) refused = refused
sequence_not_refused ps is Memory refused = refused

pub sequence_accepted : (text : List ℕ) (ps : List Frac) → ArePoints (sequence_values text) ps → IsSequence ps →
    (f : SegmentFault) → IsSequenceRefusal text f → ⊥
sequence_accepted text ps are is f (inl refused) = first_not_refused (sequence_values text) ps are f refused
sequence_accepted text ps are is f (inr refused) =
    sequence_not_refused ps is f
    (subst (λ qs. RefusesSequence qs f) (one_list_of_points (sequence_values text) refused.0 ps refused.1 are) refused.2)

pub parts_accepted : (parts : List Segment) (ps : List Frac) → parts ≢ [] → Meet parts → segments_of ps ≡ map ends parts →
    IsSequence ps → (f : SegmentFault) → IsPartsRefusal parts f → ⊥
parts_accepted parts ps some meet are is FewPoints refused = some refused
parts_accepted parts ps some meet are is (Gap at) refused = refused.1 (meet_front parts (at + 1) meet)
parts_accepted parts ps some meet are is TooMany refused =
    let long = length_segments ps in
    let two = is.some in
    let few = is.few in
    let many : HaveTooMany ps = subst HaveTooMany (sym (one_list ps refused.1.0 (omega arith) (are ∙ sym refused.1.1))) refused.1.2 in
    omega arith
parts_accepted parts ps some meet are is (Number at fault) refused = refused
parts_accepted parts ps some meet are is (BelowZero at) refused = refused
parts_accepted parts ps some meet are is (NotLess at) refused = refused
parts_accepted parts ps some meet are is (AboveOne at) refused = refused
parts_accepted parts ps some meet are is (PeriodTooLarge period) refused = refused
parts_accepted parts ps some meet are is Memory refused = refused

pub sequence_read : (text : List ℕ) (values : List (List ℕ)) (ps : List Frac) {E : Type 0} (result : Result (List Frac) E) →
    values ≡ sequence_values text → ArePoints values ps → IfOk result (λ s. s ≡ ps) → IfOk result IsSequence →
    IfOk result (λ _. (f : SegmentFault) → IsSequenceRefusal text f → ⊥)
sequence_read text values ps (Err e) same are is sequence = tt
sequence_read text values ps (Ok s) same are is sequence =
    sequence_accepted text s (subst (λ qs. ArePoints (sequence_values text) qs) (sym is) (subst (λ vs. ArePoints vs ps) same are)) sequence

pub some_parts : (parts : List Segment) → 0 < length parts → parts ≢ []
some_parts parts some is = let none : length parts ≡ 0 = ap length is in absurd (omega arith)
