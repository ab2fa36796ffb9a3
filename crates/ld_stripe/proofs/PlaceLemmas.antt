-- Moving among the indices that a position owns.
use Rattle.std.proofs.Common.{◌≡◌, ◌<◌, ◌≤◌, ◌+◌, ◌-◌, ◌%◌, ◌⊎◌, ◌∙◌, ℕ, zero, suc, List, inl, inr, length, get_or, arith, refl, ap, sym, add-one}
use Rattle.std.specs.Prelude.{sum}
use Rattle.std.proofs.Math.Decide.{dec_lt}
use Rattle.std.proofs.Math.Nat.{mod-lt}
use Rattle.ld_stripe.specs.Striping.{IsStriping, owner_at, share_at}
use Rattle.ld_stripe.specs.Place.{IsPlace}
use Rattle.ld_stripe.proofs.GivenLemmas.{one_if_same, one_if_other}
use Rattle.ld_stripe.proofs.StripingLaws.{share-suc, share_period}

-- from `index` up to and without `value` the position owns nothing
pub record IsPassed (owners : List ℕ) (j low index value : ℕ) : Type 0 where
  pub same : share_at owners j index ≡ share_at owners j value
  pub above : low ≤ index
  pub within : index ≤ value

-- the share grows by an index that the position owns, and by no other
pub share_owned : (owners : List ℕ) (j x : ℕ) → owner_at owners x ≡ j → share_at owners j (x + 1) ≡ share_at owners j x + 1
share_owned owners j x is =
    let more = share-suc owners j x in
    let one = one_if_same (owner_at owners x) j is in
    let at : share_at owners j (x + 1) ≡ share_at owners j (suc x) = ap (λ n. share_at owners j n) (add-one x) in
    omega arith

pub share_other : (owners : List ℕ) (j x : ℕ) → (owner_at owners x ≡ j → ⊥) → share_at owners j (x + 1) ≡ share_at owners j x
share_other owners j x other =
    let more = share-suc owners j x in
    let none = one_if_other (owner_at owners x) j other in
    let at : share_at owners j (x + 1) ≡ share_at owners j (suc x) = ap (λ n. share_at owners j n) (add-one x) in
    omega arith

-- a position that owned nothing in a whole period has no weight
pub passed_period : (weights owners : List ℕ) → IsStriping weights owners → (j from to : ℕ) →
    to ≡ from + length owners → share_at owners j to ≡ share_at owners j from → get_or weights j 0 ≡ 0
passed_period weights owners s j from to is same =
    let period = s.period in
    let at : to ≡ from + sum weights = omega arith in
    let there = ap (λ n. share_at owners j n) at in
    let more = share_period weights owners s j from in
    omega arith

-- a position without a weight owns no index
unowned : (weights owners : List ℕ) → IsStriping weights owners → 0 < length owners → (j v : ℕ) → get_or weights j 0 ≡ 0 →
    owner_at owners v ≡ j → ⊥
unowned weights owners s some j v none is =
    let due = (s.follows (v % length owners) (mod-lt v some)).due in
    let weighted = due.weighted in
    let same : get_or weights (owner_at owners v) 0 ≡ get_or weights j 0 = ap (λ i. get_or weights i 0) is in
    omega arith

-- and it has no share
no_share : (weights owners : List ℕ) → IsStriping weights owners → 0 < length owners → (j v : ℕ) → get_or weights j 0 ≡ 0 →
    share_at owners j v ≡ 0
no_share weights owners s some j zero none = refl
no_share weights owners s some j (suc v) none =
    let before = no_share weights owners s some j v none in
    let more = share-suc owners j v in
    let nothing = one_if_other (owner_at owners v) j (λ is. unowned weights owners s some j v none is) in
    omega arith

-- one index down that the position doesn't own
pub passed_more : (owners : List ℕ) (j low index value : ℕ) → IsPassed owners j low index value → low < index →
    (owner_at owners (index - 1) ≡ j → ⊥) → IsPassed owners j low (index - 1) value
passed_more owners j low index value passed above other =
    let within = passed.within in
    let same = passed.same in
    let more = share_other owners j (index - 1) other in
    let back : index - 1 + 1 ≡ index = omega arith in
    let there = ap (λ n. share_at owners j n) back in
    record { same = omega arith; above = omega arith; within = omega arith }

-- the place behind the next index that the position owns
pub place_next : (owners : List ℕ) (j scaled unscaled index : ℕ) → IsPlace owners j scaled unscaled →
    owner_at owners index ≡ j → share_at owners j index ≡ share_at owners j unscaled → IsPlace owners j (scaled + 1) (index + 1)
place_next owners j scaled unscaled index place is same =
    let counted = place.counted in
    let more = share_owned owners j index is in
    let back : index ≡ index + 1 - 1 = omega arith in
    record { counted = omega arith; owned = inr (ap (λ x. owner_at owners x) (sym back) ∙ is) }

-- the place behind the index before
pub place_prev : (owners : List ℕ) (j scaled unscaled below : ℕ) → IsPlace owners j scaled unscaled → 1 ≤ scaled →
    ((below ≡ 0) ⊎ (owner_at owners (below - 1) ≡ j)) → share_at owners j below ≡ share_at owners j (unscaled - 1) →
    IsPlace owners j (scaled - 1) below
place_prev owners j scaled unscaled below place some owned same = record {
  counted = counted_before (place.owned);
  owned = owned;
}
  where
    counted_before : (unscaled ≡ 0) ⊎ (owner_at owners (unscaled - 1) ≡ j) → share_at owners j below ≡ scaled - 1
    counted_before (inl at_zero) =
        let counted = place.counted in
        let none : share_at owners j unscaled ≡ 0 = ap (λ n. share_at owners j n) at_zero in
        absurd (omega arith)
    counted_before (inr is) =
        let counted = place.counted in
        let more = share_owned owners j (unscaled - 1) is in
        elim (dec_lt 0 unscaled) [
          | yes above ↦
              let back : unscaled - 1 + 1 ≡ unscaled = omega arith in
              let there = ap (λ n. share_at owners j n) back in
              omega arith
          | no at_zero ↦
              let none : share_at owners j unscaled ≡ 0 = ap (λ n. share_at owners j n) (let e : unscaled ≡ 0 = omega arith in e) in
              absurd (omega arith)
        ]

-- where the position owned nothing down to the lower end, it has no share at all
pub passed_all : (weights owners : List ℕ) → IsStriping weights owners → 0 < length owners → (j low index value : ℕ) →
    low ≡ value - length owners → IsPassed owners j low index value → index ≤ low → 0 ≡ share_at owners j value
passed_all weights owners s some j low index value is passed ended =
    let same = passed.same in
    let above = passed.above in
    elim (dec_lt (length owners) value) [
      | yes longer ↦
          let none = passed_period weights owners s j index value (omega arith) (sym same) in
          sym (no_share weights owners s some j value none)
      | no within ↦
          let at : share_at owners j index ≡ share_at owners j 0 = ap (λ n. share_at owners j n) (let e : index ≡ 0 = omega arith in e) in
          sym at ∙ same
    ]

-- a share doesn't fall
share_rises : (owners : List ℕ) (j u d : ℕ) → share_at owners j u ≤ share_at owners j (u + d)
share_rises owners j u zero = let at : u + zero ≡ u = omega arith in let here = ap (λ n. share_at owners j n) at in omega arith
share_rises owners j u (suc d) =
    let before = share_rises owners j u d in
    let more = share-suc owners j (u + d) in
    let at : u + suc d ≡ suc (u + d) = omega arith in
    let here = ap (λ n. share_at owners j n) at in
    omega arith

-- a place is not below another of the same number
not_below : (owners : List ℕ) (j scaled u v : ℕ) → IsPlace owners j scaled u → IsPlace owners j scaled v → u < v → ⊥
not_below owners j scaled u v pu pv less = at pv.owned
  where
    at : (v ≡ 0) ⊎ (owner_at owners (v - 1) ≡ j) → ⊥
    at (inl none) = omega arith
    at (inr is) =
        let counted_u = pu.counted in
        let counted_v = pv.counted in
        let last = share_owned owners j (v - 1) is in
        let back : v - 1 + 1 ≡ v = omega arith in
        let there = ap (λ n. share_at owners j n) back in
        let rises = share_rises owners j u (v - 1 - u) in
        let between : u + (v - 1 - u) ≡ v - 1 = omega arith in
        let here = ap (λ n. share_at owners j n) between in
        omega arith

-- each number has one place
pub one_place : (owners : List ℕ) (j scaled u v : ℕ) → IsPlace owners j scaled u → IsPlace owners j scaled v → u ≡ v
one_place owners j scaled u v pu pv =
    elim (dec_lt u v) [
      | yes less ↦ absurd (not_below owners j scaled u v pu pv less)
      | no other ↦ elim (dec_lt v u) [
        | yes more ↦ absurd (not_below owners j scaled v u pv pu more)
        | no same ↦ omega arith
      ]
    ]
