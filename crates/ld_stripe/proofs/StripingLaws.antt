-- The laws of striping: there is one, it gives each position its weight of every period, and the
-- shares of all positions are the whole.
use Rattle.std.proofs.Common.{◌≡◌, ◌<◌, ◌≤◌, ◌+◌, ◌*◌, ◌/◌, ◌%◌, ◌∙◌, ℕ, zero, suc, List, [], ◌∷◌, ◌++◌, inl, inr, length, get_or, map, take, arith, refl, ap, ap₂, sym, subst, nat_eq, add-one}
use Rattle.std.specs.Prelude.{sum, count_by}
use Rattle.std.specs.List.{range_with_len}
use Rattle.std.proofs.Math.Decide.{dec_lt}
use Rattle.std.proofs.Math.Nat.{mod-lt, mod-add-div', suc-mul, zero-mul, mod-eq_of_lt, add-mod_right, mul_comm, mul-le-mul_right, mul-lt-mul_of_pos_right}
use Rattle.std.proofs.lemmas.List.{take_all, length-take-le, length_push, get_or_past}
use Rattle.std.proofs.Math.Seq.{take-suc}
use Rattle.std.proofs.lemmas.Bool.Decides.{eqb_tells}
use Rattle.std.proofs.lemmas.List.Sums.{count_by-le-length, sum_by-cons, sum_by_push}
use Rattle.std.proofs.lemmas.List.FromFn.{length-range_with_len}
use Rattle.ld_stripe.specs.Striping.{IsDue, IsFirstDue, FollowsWeights, IsStriping, given, owner_at, share_at}
use Rattle.ld_stripe.proofs.FirstDueLemmas.{Leads, leads_none, leads_takes, leads_keeps, leads_all, one_first}
use Rattle.ld_stripe.proofs.GivenLemmas.{given-push, one_if, one_if_same, one_if_other, given_all, sum_from, sum_from-add, hits_once, weight_of, weights_all, same_terms}
use Rattle.ld_stripe.proofs.DueLemmas.{due_or_not, some_due, owners_in_range}
use Rattle.ld_stripe.proofs.PatternLemmas.{follows_more}

-- ---- existence

-- among the positions below n there is a first that is due, or none is
leader : (weights before : List ℕ) (n : ℕ) → (most : ℕ) × (owner : ℕ) × Leads weights before n most owner
leader weights before zero = (0, 0, leads_none weights before 0)
leader weights before (suc n) = next (leader weights before n)
  where
    keeps : (most owner : ℕ) → Leads weights before n most owner →
        (most < get_or weights n 0 → IsDue weights before n → ⊥) →
        (most' : ℕ) × (owner' : ℕ) × Leads weights before (suc n) most' owner'
    keeps most owner led not_due =
        (most, owner, subst (λ m. Leads weights before m most owner) (add-one n) (leads_keeps weights before n most owner led not_due))

    next : (most : ℕ) × (owner : ℕ) × Leads weights before n most owner →
        (most' : ℕ) × (owner' : ℕ) × Leads weights before (suc n) most' owner'
    next (most, owner, led) = elim (dec_lt most (get_or weights n 0)) [
      | no lighter ↦ keeps most owner led (λ heavier due. omega arith)
      | yes heavier ↦ elim (due_or_not weights before n) [
        | inr not_due ↦ keeps most owner led (λ h due. not_due due)
        | inl due ↦ (
          get_or weights n 0,
          n,
          subst (λ m. Leads weights before m (get_or weights n 0) n) (add-one n)
              (leads_takes weights before n most owner led heavier due),
        )
      ]
    ]

-- the owners of the first n indices of a period
owners_below : (weights : List ℕ) (n : ℕ) → n ≤ sum weights →
    (owners : List ℕ) × (length owners ≡ n) × FollowsWeights weights owners
owners_below weights zero h = ([], refl, λ i below. absurd (omega arith))
owners_below weights (suc n) h = next (owners_below weights n (omega arith))
  where
    next : (owners : List ℕ) × (length owners ≡ n) × FollowsWeights weights owners →
        (owners' : List ℕ) × (length owners' ≡ suc n) × FollowsWeights weights owners'
    next (owners, long, follows) =
        let due = some_due weights owners follows (omega arith) in
        let led = leader weights owners (length weights) in
        let first = leads_all weights owners led.0 led.1 due.0 led.2 due.1 in
        let longer = length_push owners led.1 in
        (owners ++ led.1 ∷ [], omega arith, follows_more weights owners led.1 follows first)

pub striping_exists : (weights : List ℕ) → (owners : List ℕ) × IsStriping weights owners
striping_exists weights =
    let found = owners_below weights (sum weights) (omega arith) in
    (found.0, record { period = found.1; follows = found.2 })

-- ---- uniqueness

same_front : (weights a b : List ℕ) → FollowsWeights weights a → FollowsWeights weights b →
    (n : ℕ) → n ≤ length a → n ≤ length b → take n a ≡ take n b
same_front weights a b fa fb zero ha hb = refl
same_front weights a b fa fb (suc n) ha hb =
    let before = same_front weights a b fa fb n (omega arith) (omega arith) in
    let first = subst (λ xs. IsFirstDue weights xs (get_or a n 0)) before (fa n (omega arith)) in
    let same = one_first weights (take n b) (get_or a n 0) (get_or b n 0) first (fb n (omega arith)) in
    take-suc a n 0 (omega arith) ∙ ap₂ (λ xs x. xs ++ x ∷ []) before same ∙ sym (take-suc b n 0 (omega arith))

pub striping_unique : (weights a b : List ℕ) → IsStriping weights a → IsStriping weights b → a ≡ b
striping_unique weights a b sa sb =
    let long_a = sa.period in
    let long_b = sb.period in
    sym (take_all (sum weights) a (omega arith))
    ∙ same_front weights a b sa.follows sb.follows (sum weights) (omega arith) (omega arith)
    ∙ take_all (sum weights) b (omega arith)

-- ---- the count of each position in one period

-- no position is given more than its weight
given_at_most : (weights owners : List ℕ) → IsStriping weights owners → (j n : ℕ) → n ≤ length owners →
    given (take n owners) j ≤ get_or weights j 0
given_at_most weights owners s j zero h = omega arith
given_at_most weights owners s j (suc n) h =
    let before = given_at_most weights owners s j n (omega arith) in
    let more = given-push (take n owners) (get_or owners n 0) j in
    rw (take-suc owners n 0 (omega arith)) (elim (eqb_tells (get_or owners n 0) j) [
      | inr apart ↦ let none = one_if_other (get_or owners n 0) j apart.1 in omega arith
      | inl same ↦
          let one = one_if_same (get_or owners n 0) j same.1 in
          let due : IsDue weights (take n owners) j = subst (IsDue weights (take n owners)) same.1 (s.follows n (omega arith)).due in
          let weighted = due.weighted in
          let behind = due.behind in
          let long = length-take-le n owners (omega arith) in
          let period = s.period in
          let some : 0 < sum weights = omega arith in
          elim (dec_lt (given (take n owners) j) (get_or weights j 0)) [
            | yes less ↦ omega arith
            | no less ↦ absurd (over (omega arith) weighted (rw long at behind))
          ]
    ])
  where
    -- a position that has had its whole weight isn't due before the period ends
    over : (get_or weights j 0 ≤ given (take n owners) j) → 0 < get_or weights j 0 →
        given (take n owners) j * sum weights ≤ n * get_or weights j 0 → ⊥
    over all weighted behind =
        let period = s.period in
        let at_least = mul-le-mul_right (sum weights) all in
        let less = mul-lt-mul_of_pos_right {k = get_or weights j 0} (let below : n < sum weights = omega arith in below) weighted in
        let turned = mul_comm (get_or weights j 0) (sum weights) in
        omega arith

pub given_is_weight : (weights owners : List ℕ) → IsStriping weights owners → (j : ℕ) →
    given owners j ≡ get_or weights j 0
given_is_weight weights owners s j =
    let at_most : (i : ℕ) → given owners i ≤ weight_of weights i = λ i.
    subst (λ xs. given xs i ≤ get_or weights i 0) (take_all (length owners) owners (omega arith))
    (given_at_most weights owners s i (length owners) (omega arith)) in
    let counted = given_all owners (length weights) (owners_in_range weights owners s.follows) in
    let total = weights_all weights in
    let period = s.period in
    elim (dec_lt j (length weights)) [
      | yes inside ↦ same_terms (given owners) (weight_of weights) at_most 0 (length weights) (omega arith) j (omega arith) (omega arith)
      | no past ↦ let none = get_or_past weights j 0 (omega arith) in let most = at_most j in omega arith
    ]

-- ---- shares

-- one number more at the end
pub range_more : (a n : ℕ) → range_with_len a (suc n) ≡ range_with_len a n ++ (a + n) ∷ []
range_more a zero = ap (λ x. x ∷ []) (omega arith)
range_more a (suc n) =
    ap (λ xs. a ∷ xs) (range_more (a + 1) n ∙ ap (λ x. range_with_len (a + 1) n ++ x ∷ []) (omega arith))

pub share-suc : (owners : List ℕ) (j v : ℕ) →
    share_at owners j (suc v) ≡ share_at owners j v + one_if (owner_at owners v) j
share-suc owners j v =
    ap (λ xs. count_by (λ x. nat_eq (owner_at owners x) j) xs) (range_more 0 v ∙ ap (λ x. range_with_len 0 v ++ x ∷ []) (omega arith))
    ∙ sum_by_push (λ x. one_if (owner_at owners x) j) (range_with_len 0 v) v

share_below_period : (owners : List ℕ) (j v : ℕ) → v ≤ length owners →
    share_at owners j v ≡ given (take v owners) j
share_below_period owners j zero h = refl
share_below_period owners j (suc v) h =
    let before = share_below_period owners j v (omega arith) in
    let owner : owner_at owners v ≡ get_or owners v 0 = ap (λ i. get_or owners i 0) (mod-eq_of_lt (omega arith)) in
    let hit : one_if (owner_at owners v) j ≡ one_if (get_or owners v 0) j = ap (λ o. one_if o j) owner in
    let count = given-push (take v owners) (get_or owners v 0) j in
    let longer = share-suc owners j v in
    rw (take-suc owners v 0 (omega arith)) (longer ∙ ap₂ (λ a b. a + b) before hit ∙ sym count)

-- any indices as many as a period holds give each position its weight
pub share_period : (weights owners : List ℕ) → IsStriping weights owners → (j v : ℕ) →
    share_at owners j (v + sum weights) ≡ share_at owners j v + get_or weights j 0
share_period weights owners s j zero =
    let period = s.period in
    let first = share_below_period owners j (length owners) (omega arith) in
    let all : given (take (length owners) owners) j ≡ given owners j = ap (λ xs. given xs j) (take_all (length owners) owners (omega arith)) in
    let weight = given_is_weight weights owners s j in
    let whole : zero + sum weights ≡ length owners = omega arith in
    let at : share_at owners j (zero + sum weights) ≡ share_at owners j (length owners) = ap (λ n. share_at owners j n) whole in
    omega arith
share_period weights owners s j (suc v) =
    let before = share_period weights owners s j v in
    let here = share-suc owners j v in
    let there = share-suc owners j (v + sum weights) in
    let next : suc v + sum weights ≡ suc (v + sum weights) = omega arith in
    let at : share_at owners j (suc v + sum weights) ≡ share_at owners j (suc (v + sum weights)) = ap (λ n. share_at owners j n) next in
    let again : (v + sum weights) % length owners ≡ v % length owners =
    rw s.period (add-mod_right v (sum weights)) in
    let hit : one_if (owner_at owners (v + sum weights)) j ≡ one_if (owner_at owners v) j = ap (λ i. one_if (get_or owners i 0) j) again in
    omega arith

-- whole periods give a position its weight each, and the rest what stands in it
pub share_by_periods : (weights owners : List ℕ) → IsStriping weights owners → (j q r : ℕ) → r ≤ length owners →
    share_at owners j (q * length owners + r) ≡ q * get_or weights j 0 + given (take r owners) j
share_by_periods weights owners s j zero r h =
    let none = zero-mul (length owners) in
    let nothing = zero-mul (get_or weights j 0) in
    let at : 0 * length owners + r ≡ r = omega arith in
    let first = share_below_period owners j r h in
    let here = ap (λ n. share_at owners j n) at in
    omega arith
share_by_periods weights owners s j (suc q) r h =
    let period = s.period in
    let periods = suc-mul q (length owners) in
    let shares = suc-mul q (get_or weights j 0) in
    let at : suc q * length owners + r ≡ q * length owners + r + sum weights = omega arith in
    let here = ap (λ n. share_at owners j n) at in
    let more = share_period weights owners s j (q * length owners + r) in
    let before = share_by_periods weights owners s j q r h in
    omega arith

-- the share of any number of indices, by whole periods and the rest
pub share_split : (weights owners : List ℕ) → IsStriping weights owners → (j v : ℕ) → 0 < length owners →
    share_at owners j v ≡ v / length owners * get_or weights j 0 + given (take (v % length owners) owners) j
share_split weights owners s j v some =
    let rest = mod-lt v some in
    let whole = mod-add-div' v (length owners) in
    let at : v ≡ v / length owners * length owners + v % length owners = omega arith in
    ap (λ n. share_at owners j n) at ∙ share_by_periods weights owners s j (v / length owners) (v % length owners) (omega arith)

-- a share is at most the number of indices
pub share_at_most : (owners : List ℕ) (j v : ℕ) → share_at owners j v ≤ v
share_at_most owners j v =
    let most = count_by-le-length (λ x. nat_eq (owner_at owners x) j) (range_with_len 0 v) in
    let long = length-range_with_len 0 v in
    omega arith

sum_over_range : (f : ℕ → ℕ) (p n : ℕ) → sum (map f (range_with_len p n)) ≡ sum_from f p n
sum_over_range f p zero = refl
sum_over_range f p (suc n) =
    let rest = sum_over_range f (p + 1) n in
    let split = sum_by-cons (λ x. x) (f p) (map f (range_with_len (p + 1) n)) in
    let next : sum_from f (p + 1) n ≡ sum_from f (suc p) n = ap (λ q. sum_from f q n) (add-one p) in
    omega arith

shares_so_far : (weights owners : List ℕ) → IsStriping weights owners → 0 < sum weights → (v : ℕ) →
    sum_from (λ j. share_at owners j v) 0 (length weights) ≡ v
shares_so_far weights owners s some zero = none 0 (length weights)
  where
    none : (p n : ℕ) → sum_from (λ j. 0) p n ≡ 0
    none p zero = refl
    none p (suc n) = let rest = none (suc p) n in omega arith
shares_so_far weights owners s some (suc v) =
    let before = shares_so_far weights owners s some v in
    let split = sum_from-add (λ j. share_at owners j (suc v)) (λ j. share_at owners j v) (one_if (owner_at owners v))
    (λ j. share-suc owners j v) 0 (length weights) in
    let period = s.period in
    let inside : owner_at owners v < length weights =
    owners_in_range weights owners s.follows (v % length owners) (mod-lt v (omega arith)) in
    let once = hits_once (owner_at owners v) 0 (length weights) (omega arith) (omega arith) in
    omega arith

pub shares_sum : (weights owners : List ℕ) → IsStriping weights owners → 0 < sum weights → (v : ℕ) →
    sum (map (λ j. share_at owners j v) (range_with_len 0 (length weights))) ≡ v
shares_sum weights owners s some v =
    sum_over_range (λ j. share_at owners j v) 0 (length weights) ∙ shares_so_far weights owners s some v
