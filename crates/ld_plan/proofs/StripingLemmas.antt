-- Weights have one striping, a filled sequence has one, and so have the items of a scenario.
use Rattle.std.proofs.Common.{◌≡◌, ◌<◌, ◌≤◌, ◌+◌, ◌*◌, ◌/◌, ◌%◌, ◌∙◌, ℕ, zero, suc, List, [], ◌∷◌, length, get_or, map, nat_eq, take, arith, ap, ap₂, refl, sym, subst, add-one}
use Rattle.std.specs.Prelude.{All, sum}
use Rattle.std.proofs.Math.Decide.{dec_lt}
use Rattle.std.proofs.lemmas.Bool.Decides.{nat_tests}
use Rattle.std.proofs.lemmas.List.{length-map, take_all}
use Rattle.std.proofs.lemmas.List.Elements.{All-cons, All-nil}
use Rattle.std.specs.List.{range_with_len}
use Rattle.std.proofs.lemmas.List.FromFn.{length-map-range_with_len}
use Rattle.std.proofs.lemmas.List.Quantifiers.{position-Some}
use Rattle.ld_num.specs.declared.fraction.Frac.{Frac}
use Rattle.ld_segment.specs.Points.{IsFilled}
use Rattle.ld_segment.specs.Segments.{most_segments, segments_of}
use Rattle.ld_segment.specs.Weights.{greatest_period, HasWeights}
use Rattle.ld_segment.proofs.FillingLemmas.{length_segments}
use Rattle.ld_segment.proofs.WeightsLemmas.{weights_from_points, weights_length, weights_sum, weights_unique}
use Rattle.ld_segment.proofs.WeightsLengthLemmas.{gcd_of}
use Rattle.ld_segment.proofs.WeightsPeriodLemmas.{period_exists}
use Rattle.ld_segment.proofs.WeightsPeriodLemmas as periods
use Rattle.ld_stripe.specs.StripeFault as stripe
use Rattle.ld_stripe.specs.Striping.{Striping, IsGreatestDivisor, IsStriping, IsStripingOf, owner_at, share_at, shares_at}
use Rattle.ld_stripe.specs.declared.fault.StripeFault.{StripeFault}
use Rattle.ld_stripe.specs.declared.fault.StripeFault.TheVariants as stripes
use Rattle.ld_stripe.proofs.DueLemmas.{owners_in_range}
use Rattle.ld_stripe.proofs.LowestTermsLemmas.{greatest_more, greatest_none, lowest_terms, one_form, period_at_most, period_positive, sum_positive}
use Rattle.ld_stripe.proofs.StripingLaws.{share-suc, shares_sum, striping_exists, striping_unique}
use Rattle.ld_stripe.proofs.RescaleLaws.{rescaled_share}
use Rattle.std.proofs.Math.Nat.{mod-lt}
use Rattle.ld_plan.specs.IsPlanOf.{IsSequenceStriping}

-- ---- weights

-- numbers have a greatest common divisor
greatest_of : (numbers : List ℕ) (i : ℕ) → i ≤ length numbers → (g : ℕ) × IsGreatestDivisor (take i numbers) g
greatest_of numbers zero within = (0, greatest_none)
greatest_of numbers (suc i) within =
    let before = greatest_of numbers i (omega arith) in
    let both = gcd_of before.0 (get_or numbers i 0) in (
      both.0,
      subst (λ n. IsGreatestDivisor (take n numbers) both.0) (add-one i)
          (greatest_more numbers i before.0 both.0 (omega arith) before.1 both.1),
    )

-- so weights have a striping
pub striping_of : (weights : List ℕ) → (s : Striping) × IsStripingOf weights s
striping_of weights =
    let found = greatest_of weights (length weights) (omega arith) in
    let greatest = subst (λ ws. IsGreatestDivisor ws found.0) (take_all (length weights) weights (omega arith)) found.1 in
    let reduced = map (λ n. n / found.0) weights in
    let owners = striping_exists reduced in (
      record { weights = reduced; owners = owners.0 },
      record { lowest_terms = lowest_terms weights found.0 greatest; striping = owners.1 },
    )

-- and weights that aren't all zero have one alone
pub one_striping : (weights : List ℕ) (a b : Striping) → 0 < sum weights → IsStripingOf weights a → IsStripingOf weights b → a ≡ b
one_striping weights a b some of_a of_b =
    let form = one_form weights a.weights b.weights some of_a.lowest_terms of_b.lowest_terms in
    let owners = striping_unique b.weights a.owners b.owners (subst (λ ws. IsStriping ws a.owners) form of_a.striping) of_b.striping in
    ap₂ (λ (ws os : List ℕ). record { weights = ws; owners = os }) form owners

-- a striping of n positions that gives each index to one of them
pub record IsSpread (s : Striping) (n : ℕ) : Type 0 where
  pub striping : IsStriping s.weights s.owners
  pub some : 0 < sum s.weights
  pub positions : length s.weights ≡ n

-- the striping of weights that aren't all zero is one
pub spread_of : (weights : List ℕ) (s : Striping) → 0 < sum weights → IsStripingOf weights s → IsSpread s (length weights)
spread_of weights s some of = record {
  striping = of.striping;
  some = period_positive weights s.weights some of.lowest_terms;
  positions =
      sym (ap length of.lowest_terms.multiples ∙ length-map s.weights (λ n. of.lowest_terms.divisor * n));
}

-- each index goes to one of the positions
pub owner_inside : (s : Striping) (n x : ℕ) → IsSpread s n → owner_at s.owners x < n
owner_inside s n x spread =
    let period = spread.striping.period in
    let some = spread.some in
    let positions = spread.positions in
    let inside = owners_in_range s.weights s.owners spread.striping.follows (x % length s.owners) (mod-lt x (omega arith)) in
    omega arith

-- ---- sequences

-- the striping doesn't refuse such weights
striping_accepts : (weights : List ℕ) → 0 < length weights → length weights ≤ most_segments → All (λ w. 0 < w) weights →
    sum weights ≤ greatest_period → (f : StripeFault) → stripe.IsRefusal weights f → ⊥
striping_accepts weights some few weighted small stripes.NoWeights refused = let none = ap length refused in omega arith
striping_accepts weights some few weighted small stripes.TooMany refused = omega arith
striping_accepts weights some few weighted small (stripes.ZeroWeight p) refused =
    let found = position-Some (λ w. nat_eq w 0) weights p 0 refused.1 in
    let test = found.1 in
    let zero : get_or weights p 0 ≡ 0 = grind (arith, nat_tests) in
    let above : 0 < get_or weights p 0 = weighted p 0 found.0 in
    omega arith
striping_accepts weights some few weighted small (stripes.PeriodTooLarge n) refused =
    let positive = sum_positive weights some weighted in
    let most = period_at_most weights refused.2.0 positive refused.2.1 in
    let large = refused.2.2 in
    omega arith
striping_accepts weights some few weighted small stripes.Memory refused = refused

some_weights : (weights : List ℕ) → 0 < sum weights → 0 < length weights
some_weights [] positive = absurd (omega arith)
some_weights (w ∷ ws) positive = omega arith

-- the weight of the one position of a test that isn't cut is accepted
pub one_weight_accepted : (f : StripeFault) → stripe.IsRefusal (1 ∷ []) f → ⊥
one_weight_accepted f refused =
    striping_accepts (1 ∷ []) (omega arith) (omega arith) (All-cons (λ w. 0 < w) 1 [] (omega arith) (All-nil (λ w. 0 < w))) (omega arith) f refused

-- weights of a filled sequence are accepted
pub weights_accepted : (points : List Frac) (weights : List ℕ) → HasWeights points (sum weights) weights → sum weights ≤ greatest_period →
    length weights ≤ most_segments → All (λ w. 0 < w) weights → (f : StripeFault) → stripe.IsRefusal weights f → ⊥
weights_accepted points weights has small few weighted f refused =
    let positive = periods.period_positive points (sum weights) has.has_period in
    striping_accepts weights (some_weights weights positive) few weighted small f refused

-- the weights of a filled sequence aren't all zero
weights_some : (points : List Frac) (period : ℕ) (weights : List ℕ) → IsFilled points → HasWeights points period weights → 0 < sum weights
weights_some points period weights filled has =
    let total = weights_sum period points weights filled has in
    let positive = periods.period_positive points period has.has_period in
    omega arith

-- a filled sequence has a striping
striping_at : (points : List Frac) (period : ℕ) (weights : List ℕ) → HasWeights points period weights → (s : Striping) × IsSequenceStriping points s
striping_at points period weights has =
    let striping = striping_of weights in
    (striping.0, record { period = period; weights = weights; weighted = has; striping = striping.1 })

pub sequence_striping : (points : List Frac) → IsFilled points → (s : Striping) × IsSequenceStriping points s
sequence_striping points filled =
    let found = period_exists points filled in
    striping_at points found.0 _ (weights_from_points found.0 points filled found.1)

-- it has one alone
pub one_sequence_striping : (points : List Frac) (a b : Striping) → IsFilled points → IsSequenceStriping points a → IsSequenceStriping points b → a ≡ b
one_sequence_striping points a b filled of_a of_b =
    let same : of_a.weights ≡ of_b.weights =
    weights_unique points of_a.period of_b.period of_a.weights of_b.weights filled of_a.weighted of_b.weighted in
    one_striping of_b.weights a b (weights_some points of_b.period of_b.weights filled of_b.weighted)
    (subst (λ ws. IsStripingOf ws a) same of_a.striping) of_b.striping

-- which gives each index to one of its positions
pub sequence_spread : (points : List Frac) (s : Striping) → IsFilled points → IsSequenceStriping points s → IsSpread s (length (segments_of points))
sequence_spread points s filled of =
    let spread = spread_of of.weights s (weights_some points of.period of.weights filled of.weighted) of.striping in
    let long = weights_length of.period points of.weights filled of.weighted in
    let segments = length_segments points in
    let positions = spread.positions in
    record { striping = spread.striping; some = spread.some; positions = omega arith }

-- ---- shares

-- a greater number of indices gives a position no fewer
pub share_rises : (owners : List ℕ) (j m n : ℕ) → m ≤ n → share_at owners j m ≤ share_at owners j n
share_rises owners j m zero below = let same : m ≡ 0 = omega arith in rw same (omega arith)
share_rises owners j m (suc n) below = elim (dec_lt n m) [
  | yes above ↦ let same : m ≡ suc n = omega arith in rw same (omega arith)
  | no within ↦
      let before = share_rises owners j m n (omega arith) in
      let next = share-suc owners j n in
      omega arith
]

-- ---- items

-- the shares of v indices aren't all zero, where v is above zero
shares_some : (s : Striping) (n v : ℕ) → IsSpread s n → 1 ≤ v → 0 < sum (shares_at s v)
shares_some s n v spread some = let all = shares_sum s.weights s.owners spread.striping spread.some v in omega arith

-- so a striping that is rescaled is one alone
pub one_rescaled : (s a b : Striping) (n v : ℕ) → IsSpread s n → 1 ≤ v → IsStripingOf (shares_at s v) a → IsStripingOf (shares_at s v) b → a ≡ b
one_rescaled s a b n v spread some of_a of_b = one_striping (shares_at s v) a b (shares_some s n v spread some) of_a of_b

-- the shares of as many indices by the rescaled striping are the same, so rescaling it once more leaves it
same_on_range : (f g : ℕ → ℕ) (a n : ℕ) → ((j : ℕ) → j < a + n → f j ≡ g j) → map f (range_with_len a n) ≡ map g (range_with_len a n)
same_on_range f g a zero same = refl
same_on_range f g a (suc n) same =
    ap₂ (λ x xs. x ∷ xs) (same a (omega arith)) (same_on_range f g (a + 1) n (λ j inside. same j (omega arith)))

pub rescaled_again : (s r : Striping) (n v : ℕ) → IsSpread s n → IsSpread r n → IsStripingOf (shares_at s v) r → IsStripingOf (shares_at r v) r
rescaled_again s r n v spread rescaled of =
    let long = spread.positions in
    let shares =
    ap (λ k. map (λ j. share_at r.owners j v) (range_with_len 0 k)) (rescaled.positions ∙ sym spread.positions)
    ∙ same_on_range (λ j. share_at r.owners j v) (λ j. share_at s.owners j v) 0 (length s.weights)
    (λ j inside. rescaled_share s r v spread.striping spread.some of j (omega arith)) in
    subst (λ ws. IsStripingOf ws r) (sym shares) of

-- and gives each index to one of the positions
pub rescaled_spread : (s r : Striping) (n v : ℕ) → IsSpread s n → 1 ≤ v → IsStripingOf (shares_at s v) r → IsSpread r n
rescaled_spread s r n v spread some of =
    let rescaled = spread_of (shares_at s v) r (shares_some s n v spread some) of in
    let long = length-map-range_with_len (λ j. share_at s.owners j v) 0 (length s.weights) in
    let positions = spread.positions in
    let each = rescaled.positions in
    record { striping = rescaled.striping; some = rescaled.some; positions = omega arith }
