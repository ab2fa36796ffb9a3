-- The one position of a test that isn't cut owns every index.
use Rattle.std.proofs.Common.{◌≡◌, ℕ, List, [], ◌∷◌, arith, refl, ap, subst}
use Rattle.std.specs.Int.{◌∣◌}
use Rattle.std.proofs.lemmas.List.Elements.{All-cons, All-head, All-nil}
use Rattle.std.proofs.lemmas.Nat.Gcd.{dvd_refl}
use Rattle.ld_segment.specs.Segments.{one_point, zero_point}
use Rattle.ld_segment.specs.Weights.{HasPeriod, HasWeights}
use Rattle.ld_stripe.specs.Striping.{IsStriping, IsStripingOf, IsLowestTerms, share_at}
use Rattle.ld_stripe.proofs.DueLemmas.{owners_in_range}
use Rattle.ld_stripe.proofs.StripingLaws.{shares_sum, striping_exists}
use Rattle.ld_plan.specs.IsPlanOf.{IsSequenceStriping, whole_striping}

-- the weight 1 has one list of owners
one_list : (owners : List ℕ) → IsStriping (1 ∷ []) owners → owners ≡ 0 ∷ []
one_list [] s = let period = s.period in absurd (omega arith)
one_list (o ∷ []) s =
    let inside = owners_in_range (1 ∷ []) (o ∷ []) s.follows 0 (omega arith) in
    ap (λ k. k ∷ []) (omega arith)
one_list (o ∷ p ∷ rest) s = let period = s.period in absurd (omega arith)

one_striped : IsStriping (1 ∷ []) (0 ∷ [])
one_striped =
    let found = striping_exists (1 ∷ []) in
    subst (IsStriping (1 ∷ [])) (one_list found.0 found.1) found.1

-- one weight alone has the weight 1 in lowest terms
one_weight : (v : ℕ) → IsLowestTerms (v ∷ []) (1 ∷ [])
one_weight v = record {
  divisor = v;
  is_greatest = record {
    divides = All-cons (λ n. v ∣ n) v [] (dvd_refl v) (All-nil (λ n. v ∣ n));
    greatest = λ d all. All-head (λ n. d ∣ n) v [] all;
  };
  multiples = ap (λ n. n ∷ []) (omega arith);
}

pub striping_of_one : (v : ℕ) → IsStripingOf (v ∷ []) whole_striping
striping_of_one v = record { lowest_terms = one_weight v; striping = one_striped }

-- the sequence of the points 0 and 1 has the period 1, and its one position the weight 1
one_period : HasPeriod (zero_point ∷ one_point ∷ []) 1
one_period = record {
  spans = one_point ∷ [];
  are_lengths = (refl, tt);
  is_least = record {
    of_each = All-cons (λ n. n ∣ 1) 1 [] (dvd_refl 1) (All-nil (λ n. n ∣ 1));
    least = λ other all. All-head (λ n. n ∣ other) 1 [] all;
  };
}

one_weighted : HasWeights (zero_point ∷ one_point ∷ []) 1 (1 ∷ [])
unfolding one_period
one_weighted = record { has_period = one_period; each = (refl, tt) }

pub sequence_of_one : IsSequenceStriping (zero_point ∷ one_point ∷ []) whole_striping
sequence_of_one = record { period = 1; weights = 1 ∷ []; weighted = one_weighted; striping = striping_of_one 1 }

-- the whole has all of any number of indices
pub share_of_whole : (v : ℕ) → share_at (0 ∷ []) 0 v ≡ v
share_of_whole v =
    let all = shares_sum (1 ∷ []) (0 ∷ []) one_striped (omega arith) v in
    omega arith
