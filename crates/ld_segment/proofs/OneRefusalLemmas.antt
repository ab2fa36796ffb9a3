-- What is refused is refused with one fault.
use Rattle.std.proofs.Common.{◌≡◌, ◌≢◌, ◌<◌, ◌≤◌, ◌+◌, ◌∙◌, ◌∷◌, [], ℕ, zero, suc, List, length, take, arith, ap, sym, subst, refl, inl, inr}
use Rattle.std.specs.Prelude.{◌⊎◌, Some, slice_get}
use Rattle.std.proofs.Math.Decide.{dec_lt}
use Rattle.std.proofs.lemmas.List.{take-take}
use Rattle.ld_num.specs.Written.{Written, IsWritten, longest_run}
use Rattle.ld_num.specs.Reading.{IsRefusal}
use Rattle.ld_num.specs.declared.fraction.Frac.{Frac}
use Rattle.ld_num.specs.declared.fault.NumFault.{NumFault}
use Rattle.ld_num.specs.declared.fault.NumFault.TheVariants.{Empty, BadDigit, ZeroDenominator, TooLarge, BadUnit, NotWhole}
use Rattle.ld_num.specs.declared.fault.NumFault.TheVariants as num
use Rattle.ld_num.proofs.ShapeLemmas.{has_shape}
use Rattle.ld_segment.specs.Points.{IsAtMostOne, Rise}
use Rattle.ld_segment.specs.Values.{IsSigned, segment_values, sequence_values}
use Rattle.ld_segment.specs.Refusal.{AreAtMostOne, EndsAt, IsPartsRefusal, IsSegmentRefusal, IsSequenceRefusal, Meet, RefusesFirst, RefusesPoints, RefusesSequence, RefusesValue}
use Rattle.ld_segment.specs.declared.segment.Segment.{Segment}
use Rattle.ld_segment.specs.declared.fault.SegmentFault.{SegmentFault}
use Rattle.ld_segment.specs.declared.fault.SegmentFault.TheVariants.{Number, BelowZero, NotLess, AboveOne, Gap, FewPoints, PeriodTooLarge, TooMany, Memory}
use Rattle.ld_segment.proofs.PartLemmas.{segments_meet_parts}
use Rattle.ld_segment.proofs.RiseLemmas.{all_front, meet_front, points_not_refused, rise_front}
use Rattle.ld_segment.proofs.ValueLemmas.{first_not_refused, number_some, one_list_of_points, value_at, value_not_refused}

-- a fact that holds of each front ends at one place
ends_before : {X : Type 0} (P : List X → Type 0) → ((xs : List X) (n : ℕ) → P xs → P (take n xs)) → (xs : List X) (a b : ℕ) →
    a < b → EndsAt P xs a → EndsAt P xs b → ⊥
ends_before P front xs a b before at_a at_b =
    at_a.1 (subst P (take-take (a + 1) b xs (omega arith)) (front (take b xs) (a + 1) at_b.0))

ends_once : {X : Type 0} (P : List X → Type 0) → ((xs : List X) (n : ℕ) → P xs → P (take n xs)) → (xs : List X) (a b : ℕ) →
    EndsAt P xs a → EndsAt P xs b → a ≡ b
ends_once P front xs a b at_a at_b =
    elim (dec_lt a b) [
      | yes before ↦ absurd (ends_before P front xs a b before at_a at_b)
      | no not_before ↦
          elim (dec_lt b a) [
            | yes behind ↦ absurd (ends_before P front xs b a behind at_b at_a)
            | no not_behind ↦ omega arith
          ]
    ]

-- a number has one fault
no_text : (text : List ℕ) (written : Written) → text ≡ [] → IsWritten text written → ⊥
no_text text written none is = number_some written is.in_digits (sym is.spelled ∙ none)

one_written : (text : List ℕ) (v w : Written) → IsWritten text v → IsWritten text w → v ≡ w
one_written text v w of_v of_w = sym (has_shape text v of_v) ∙ has_shape text w of_w

too_large_or_zero : (text : List ℕ) → IsRefusal text TooLarge → IsRefusal text ZeroDenominator → ⊥
too_large_or_zero text large none =
    let same = ap longest_run (one_written text large.0 none.0 large.1 none.1) in
    let long = large.2 in
    let short = none.2 in
    omega arith

one_number_fault : (text : List ℕ) (f g : NumFault) → IsRefusal text f → IsRefusal text g → f ≡ g
one_number_fault text Empty Empty left right = refl
one_number_fault text Empty BadDigit left right = absurd (right.0 left)
one_number_fault text Empty TooLarge left right = absurd (no_text text right.0 left right.1)
one_number_fault text Empty ZeroDenominator left right = absurd (no_text text right.0 left right.1)
one_number_fault text BadDigit Empty left right = absurd (left.0 right)
one_number_fault text BadDigit BadDigit left right = refl
one_number_fault text BadDigit TooLarge left right = absurd (left.1 right.0 right.1)
one_number_fault text BadDigit ZeroDenominator left right = absurd (left.1 right.0 right.1)
one_number_fault text TooLarge Empty left right = absurd (no_text text left.0 right left.1)
one_number_fault text TooLarge BadDigit left right = absurd (right.1 left.0 left.1)
one_number_fault text TooLarge TooLarge left right = refl
one_number_fault text TooLarge ZeroDenominator left right = absurd (too_large_or_zero text left right)
one_number_fault text ZeroDenominator Empty left right = absurd (no_text text left.0 right left.1)
one_number_fault text ZeroDenominator BadDigit left right = absurd (right.1 left.0 left.1)
one_number_fault text ZeroDenominator TooLarge left right = absurd (too_large_or_zero text right left)
one_number_fault text ZeroDenominator ZeroDenominator left right = refl
one_number_fault text BadUnit g left right = absurd left
one_number_fault text NotWhole g left right = absurd left
one_number_fault text num.Memory g left right = absurd left
one_number_fault text Empty BadUnit left right = absurd right
one_number_fault text Empty NotWhole left right = absurd right
one_number_fault text Empty num.Memory left right = absurd right
one_number_fault text BadDigit BadUnit left right = absurd right
one_number_fault text BadDigit NotWhole left right = absurd right
one_number_fault text BadDigit num.Memory left right = absurd right
one_number_fault text TooLarge BadUnit left right = absurd right
one_number_fault text TooLarge NotWhole left right = absurd right
one_number_fault text TooLarge num.Memory left right = absurd right
one_number_fault text ZeroDenominator BadUnit left right = absurd right
one_number_fault text ZeroDenominator NotWhole left right = absurd right
one_number_fault text ZeroDenominator num.Memory left right = absurd right

-- how a value is refused
abbrev OfValue : List ℕ → ℕ → SegmentFault → Type 0
OfValue value place f =
    ((f ≡ BelowZero place) × IsSigned value)
    ⊎ ((fault : NumFault) × (f ≡ Number place fault) × (IsSigned value → ⊥) × IsRefusal value fault)

of_value : (value : List ℕ) (place : ℕ) (f : SegmentFault) → RefusesValue value place f → OfValue value place f
of_value value place (Number at fault) refused = inr (fault, ap (λ n. Number n fault) refused.0, refused.1, refused.2)
of_value value place (BelowZero at) refused = inl (ap (λ n. BelowZero n) refused.0, refused.1)
of_value value place (NotLess at) refused = absurd refused
of_value value place (AboveOne at) refused = absurd refused
of_value value place (Gap at) refused = absurd refused
of_value value place FewPoints refused = absurd refused
of_value value place (PeriodTooLarge period) refused = absurd refused
of_value value place TooMany refused = absurd refused
of_value value place Memory refused = absurd refused

one_value_fault : (value : List ℕ) (place : ℕ) (f g : SegmentFault) → OfValue value place f → OfValue value place g → f ≡ g
one_value_fault value place f g (inl left) (inl right) = left.0 ∙ sym right.0
one_value_fault value place f g (inl left) (inr right) = absurd (right.2 left.1)
one_value_fault value place f g (inr left) (inl right) = absurd (left.2 right.1)
one_value_fault value place f g (inr left) (inr right) =
    left.1 ∙ ap (λ n. Number place n) (one_number_fault value left.0 right.0 left.3 right.3) ∙ sym right.1

-- the first value that is refused has one place
get_front : (xs : List (List ℕ)) (i n : ℕ) → i < n → slice_get (take n xs) i ≡ slice_get xs i
get_front xs i zero before = absurd (omega arith)
get_front [] i (suc n) before = refl
get_front (x ∷ xs) zero (suc n) before = refl
get_front (x ∷ xs) (suc i) (suc n) before = get_front xs i n (omega arith)

first_before : (values : List (List ℕ)) (f g : SegmentFault) (a : RefusesFirst values f) (b : RefusesFirst values g) → a.place < b.place → ⊥
first_before values f g a b before =
    let found = value_at (take b.place values) b.points_before a.place a.value b.before
    (get_front values a.place b.place before ∙ a.stands) in
    value_not_refused a.value a.place found.0 found.1 f a.refused

some_is : (v w : List ℕ) → Some v ≡ Some w → v ≡ w
some_is v w same = cc

one_first_fault : (values : List (List ℕ)) (f g : SegmentFault) → RefusesFirst values f → RefusesFirst values g → f ≡ g
one_first_fault values f g a b =
    elim (dec_lt a.place b.place) [
      | yes before ↦ absurd (first_before values f g a b before)
      | no not_before ↦
          elim (dec_lt b.place a.place) [
            | yes behind ↦ absurd (first_before values g f b a behind)
            | no not_behind ↦ at_one_place (let same : a.place ≡ b.place = omega arith in same)
          ]
    ]
  where
    at_one_place : a.place ≡ b.place → f ≡ g
    at_one_place same =
        let value : a.value ≡ b.value = some_is a.value b.value (sym a.stands ∙ ap (slice_get values) same ∙ b.stands) in
        one_value_fault b.value b.place f g
        (of_value b.value b.place f (subst (λ v. RefusesValue v b.place f) value (subst (λ n. RefusesValue a.value n f) same a.refused)))
        (of_value b.value b.place g b.refused)

-- how points are refused
abbrev OfPoints : List Frac → SegmentFault → Type 0
OfPoints ps f =
    ((at : ℕ) × (f ≡ AboveOne at) × EndsAt AreAtMostOne ps at)
    ⊎ ((at : ℕ) × (f ≡ NotLess at) × AreAtMostOne ps × EndsAt Rise ps at)

of_points : (ps : List Frac) (f : SegmentFault) → RefusesPoints ps f → OfPoints ps f
of_points ps (Number at fault) refused = absurd refused
of_points ps (BelowZero at) refused = absurd refused
of_points ps (NotLess at) refused = inr (at, refl, refused.0, refused.1)
of_points ps (AboveOne at) refused = inl (at, refl, refused)
of_points ps (Gap at) refused = absurd refused
of_points ps FewPoints refused = absurd refused
of_points ps (PeriodTooLarge period) refused = absurd refused
of_points ps TooMany refused = absurd refused
of_points ps Memory refused = absurd refused

one_points_fault : (ps : List Frac) (f g : SegmentFault) → OfPoints ps f → OfPoints ps g → f ≡ g
one_points_fault ps f g (inl left) (inl right) =
    left.1 ∙ ap (λ n. AboveOne n) (ends_once AreAtMostOne (all_front IsAtMostOne) ps left.0 right.0 left.2 right.2) ∙ sym right.1
one_points_fault ps f g (inl left) (inr right) = absurd (left.2.1 (all_front IsAtMostOne ps (left.0 + 1) right.2))
one_points_fault ps f g (inr left) (inl right) = absurd (right.2.1 (all_front IsAtMostOne ps (right.0 + 1) left.2))
one_points_fault ps f g (inr left) (inr right) =
    left.1 ∙ ap (λ n. NotLess n) (ends_once Rise rise_front ps left.0 right.0 left.3 right.3) ∙ sym right.1

pub one_segment_refusal : (text : List ℕ) (f g : SegmentFault) → IsSegmentRefusal text f → IsSegmentRefusal text g → f ≡ g
one_segment_refusal text f g (inl left) (inl right) = one_first_fault (segment_values text) f g left right
one_segment_refusal text f g (inl left) (inr right) = absurd (first_not_refused (segment_values text) right.0 right.1 f left)
one_segment_refusal text f g (inr left) (inl right) = absurd (first_not_refused (segment_values text) left.0 left.1 g right)
one_segment_refusal text f g (inr left) (inr right) =
    one_points_fault right.0 f g
    (of_points right.0 f (subst (λ ps. RefusesPoints ps f) (one_list_of_points (segment_values text) left.0 right.0 left.1 right.1) left.2))
    (of_points right.0 g right.2)

-- how the points of a sequence are refused
abbrev OfSequence : List Frac → SegmentFault → Type 0
OfSequence ps f =
    ((f ≡ FewPoints) × (length ps < 2))
    ⊎ (((2 ≤ length ps) × RefusesPoints ps f)
    ⊎ ((f ≡ TooMany) × (2 ≤ length ps) × AreAtMostOne ps × Rise ps))

of_sequence : (ps : List Frac) (f : SegmentFault) → RefusesSequence ps f → OfSequence ps f
of_sequence ps (Number at fault) refused = absurd refused
of_sequence ps (BelowZero at) refused = absurd refused
of_sequence ps (NotLess at) refused = inr (inl (refused.0, refused.1))
of_sequence ps (AboveOne at) refused = inr (inl (refused.0, refused.1))
of_sequence ps (Gap at) refused = absurd refused
of_sequence ps FewPoints refused = inl (refl, refused)
of_sequence ps (PeriodTooLarge period) refused = absurd refused
of_sequence ps TooMany refused = inr (inr (refl, refused.0, refused.1, refused.2))
of_sequence ps Memory refused = absurd refused

one_sequence_fault : (ps : List Frac) (f g : SegmentFault) → OfSequence ps f → OfSequence ps g → f ≡ g
one_sequence_fault ps f g (inl left) (inl right) = left.0 ∙ sym right.0
one_sequence_fault ps f g (inl left) (inr (inl right)) = absurd (let few = left.1 in let some = right.0 in omega arith)
one_sequence_fault ps f g (inl left) (inr (inr right)) = absurd (let few = left.1 in let some = right.1 in omega arith)
one_sequence_fault ps f g (inr (inl left)) (inl right) = absurd (let few = right.1 in let some = left.0 in omega arith)
one_sequence_fault ps f g (inr (inl left)) (inr (inl right)) = one_points_fault ps f g (of_points ps f left.1) (of_points ps g right.1)
one_sequence_fault ps f g (inr (inl left)) (inr (inr right)) = absurd (points_not_refused ps right.2 right.3 f left.1)
one_sequence_fault ps f g (inr (inr left)) (inl right) = absurd (let few = right.1 in let some = left.1 in omega arith)
one_sequence_fault ps f g (inr (inr left)) (inr (inl right)) = absurd (points_not_refused ps left.2 left.3 g right.1)
one_sequence_fault ps f g (inr (inr left)) (inr (inr right)) = left.0 ∙ sym right.0

pub one_sequence_refusal : (text : List ℕ) (f g : SegmentFault) → IsSequenceRefusal text f → IsSequenceRefusal text g → f ≡ g
one_sequence_refusal text f g (inl left) (inl right) = one_first_fault (sequence_values text) f g left right
one_sequence_refusal text f g (inl left) (inr right) = absurd (first_not_refused (sequence_values text) right.0 right.1 f left)
one_sequence_refusal text f g (inr left) (inl right) = absurd (first_not_refused (sequence_values text) left.0 left.1 g right)
one_sequence_refusal text f g (inr left) (inr right) =
    one_sequence_fault right.0 f g
    (of_sequence right.0 f (subst (λ ps. RefusesSequence ps f) (one_list_of_points (sequence_values text) left.0 right.0 left.1 right.1) left.2))
    (of_sequence right.0 g right.2)

-- how segments are refused
abbrev OfParts : List Segment → SegmentFault → Type 0
OfParts parts f =
    ((f ≡ FewPoints) × (parts ≡ []))
    ⊎ (((at : ℕ) × (f ≡ Gap at) × EndsAt Meet parts at)
    ⊎ ((f ≡ TooMany) × (parts ≢ []) × Meet parts))

of_parts : (parts : List Segment) (f : SegmentFault) → IsPartsRefusal parts f → OfParts parts f
of_parts parts (Number at fault) refused = absurd refused
of_parts parts (BelowZero at) refused = absurd refused
of_parts parts (NotLess at) refused = absurd refused
of_parts parts (AboveOne at) refused = absurd refused
of_parts parts (Gap at) refused = inr (inl (at, refl, refused))
of_parts parts FewPoints refused = inl (refl, refused)
of_parts parts (PeriodTooLarge period) refused = absurd refused
of_parts parts TooMany refused = inr (inr (refl, refused.0, segments_meet_parts parts refused.1.0 refused.1.1))
of_parts parts Memory refused = absurd refused

no_gap : (parts : List Segment) (at : ℕ) → parts ≡ [] → EndsAt Meet parts at → ⊥
no_gap parts at none gap = gap.1 (meet_front parts (at + 1) (subst Meet (sym none) tt))

one_parts_fault : (parts : List Segment) (f g : SegmentFault) → OfParts parts f → OfParts parts g → f ≡ g
one_parts_fault parts f g (inl left) (inl right) = left.0 ∙ sym right.0
one_parts_fault parts f g (inl left) (inr (inl right)) = absurd (no_gap parts right.0 left.1 right.2)
one_parts_fault parts f g (inl left) (inr (inr right)) = absurd (right.1 left.1)
one_parts_fault parts f g (inr (inl left)) (inl right) = absurd (no_gap parts left.0 right.1 left.2)
one_parts_fault parts f g (inr (inl left)) (inr (inl right)) =
    left.1 ∙ ap (λ n. Gap n) (ends_once Meet meet_front parts left.0 right.0 left.2 right.2) ∙ sym right.1
one_parts_fault parts f g (inr (inl left)) (inr (inr right)) = absurd (left.2.1 (meet_front parts (left.0 + 1) right.2))
one_parts_fault parts f g (inr (inr left)) (inl right) = absurd (left.1 right.1)
one_parts_fault parts f g (inr (inr left)) (inr (inl right)) = absurd (right.2.1 (meet_front parts (right.0 + 1) left.2))
one_parts_fault parts f g (inr (inr left)) (inr (inr right)) = left.0 ∙ sym right.0

pub one_parts_refusal : (parts : List Segment) (f g : SegmentFault) → IsPartsRefusal parts f → IsPartsRefusal parts g → f ≡ g
one_parts_refusal parts f g left right = one_parts_fault parts f g (of_parts parts f left) (of_parts parts g right)
