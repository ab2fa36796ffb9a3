-- Points that are filled up.
use Rattle.std.proofs.Common.{◌≡◌, ◌<◌, ◌≤◌, ◌+◌, ◌-◌, ◌*◌, ◌∙◌, ◌∷◌, ◌++◌, [], ℕ, zero, suc, List, Bool, true, false, length, get_or, arith, ap, ap₂, sym, subst, refl, nat_eq, length-append, append_assoc, append-nil}
use Rattle.std.specs.Prelude.{Some, not, slice_get, if◌then◌else◌}
use Rattle.std.proofs.Math.Decide.{dec_lt}
use Rattle.std.proofs.Math.Nat.{lt_of_mul-lt-mul_right, mul-lt-mul_of_pos_right}
use Rattle.std.proofs.lemmas.Bool.Decides.{nat_tests}
use Rattle.std.proofs.lemmas.Option.{slice_get_within}
use Rattle.ld_num.specs.declared.fraction.Frac.{Frac}
use Rattle.ld_segment.specs.Points.{IsAtMostOne, IsBelow, IsFilled, Rise, BeginsAtZero, EndsAtOne}
use Rattle.ld_segment.specs.Segments.{filled, lacking_behind, lacking_front, most_segments, one_point, segments_of, zero_point, IsSequence}
use Rattle.ld_segment.specs.Refusal.{AreAtMostOne}
use Rattle.ld_segment.proofs.RiseLemmas.{all_at, rise_at}

-- there is one segment fewer than points
pub length_segments : (ps : List Frac) → length (segments_of ps) ≡ length ps - 1
length_segments [] = refl
length_segments (p ∷ []) = refl
length_segments (p ∷ q ∷ ps) = let rest = length_segments (q ∷ ps) in omega arith

pub segment_at : (ps : List Frac) (i : ℕ) (d e : Frac) → suc i < length ps →
    slice_get (segments_of ps) i ≡ Some (get_or ps i d, get_or ps (suc i) e)
segment_at [] i d e below = absurd (omega arith)
segment_at (p ∷ []) i d e below = absurd (omega arith)
segment_at (p ∷ q ∷ ps) zero d e below = refl
segment_at (p ∷ q ∷ ps) (suc i) d e below = segment_at (q ∷ ps) i d e (omega arith)

-- tests on numbers
eq_true : (m n : ℕ) → m ≡ n → nat_eq m n ≡ true
eq_true m n is = grind (arith, nat_tests)

eq_from : (m n : ℕ) → nat_eq m n ≡ true → m ≡ n
eq_from m n is = grind (arith, nat_tests)

eq_from_not : (m n : ℕ) → nat_eq m n ≡ false → m ≡ n → ⊥
eq_from_not m n is same = grind (arith, nat_tests)

-- in front
front_rises : (p : Frac) (ps : List Frac) → Rise (p ∷ ps) → Rise (lacking_front (p ∷ ps) ++ p ∷ ps)
front_rises p ps rise = decided (nat_eq p.num 0) refl
  where
    decided : (b : Bool) → nat_eq p.num 0 ≡ b → Rise (lacking_front (p ∷ ps) ++ p ∷ ps)
    decided true is = rw is rise
    decided false is =
        let above : 0 < p.num = (let other = eq_from_not p.num 0 is in omega arith) in
        let below : IsBelow zero_point p = omega arith in
        rw is (below, rise)

front_begins : (p : Frac) (ps : List Frac) → BeginsAtZero (lacking_front (p ∷ ps) ++ p ∷ ps)
front_begins p ps = decided (nat_eq p.num 0) refl
  where
    decided : (b : Bool) → nat_eq p.num 0 ≡ b → BeginsAtZero (lacking_front (p ∷ ps) ++ p ∷ ps)
    decided true is = rw is (eq_from p.num 0 is)
    decided false is = rw is refl

front_at_most : (p : Frac) (ps : List Frac) → AreAtMostOne (p ∷ ps) → AreAtMostOne (lacking_front (p ∷ ps) ++ p ∷ ps)
front_at_most p ps all = decided (nat_eq p.num 0) refl
  where
    decided : (b : Bool) → nat_eq p.num 0 ≡ b → AreAtMostOne (lacking_front (p ∷ ps) ++ p ∷ ps)
    decided true is = rw is all
    decided false is = rw is (let low : 0 ≤ 1 = omega arith in low, all)

-- behind
behind_rises : (ps : List Frac) → Rise ps → AreAtMostOne ps → 0 < length ps → Rise (ps ++ lacking_behind ps)
behind_rises [] rise all some = absurd (omega arith)
behind_rises (p ∷ []) rise all some = decided (nat_eq p.num p.den) refl
  where
    decided : (b : Bool) → nat_eq p.num p.den ≡ b → Rise ((p ∷ []) ++ lacking_behind (p ∷ []))
    decided true is = rw is tt
    decided false is =
        let other = eq_from_not p.num p.den is in
        let most : p.num ≤ p.den = all.0 in
        let below : IsBelow p one_point = omega arith in
        rw is (below, tt)
behind_rises (p ∷ q ∷ ps) rise all some = (rise.0, behind_rises (q ∷ ps) rise.1 all.1 (omega arith))

behind_ends : (ps : List Frac) → 0 < length ps → EndsAtOne (ps ++ lacking_behind ps)
behind_ends [] some = absurd (omega arith)
behind_ends (p ∷ []) some = decided (nat_eq p.num p.den) refl
  where
    decided : (b : Bool) → nat_eq p.num p.den ≡ b → EndsAtOne ((p ∷ []) ++ lacking_behind (p ∷ []))
    decided true is = rw is (eq_from p.num p.den is)
    decided false is = rw is refl
behind_ends (p ∷ q ∷ ps) some = behind_ends (q ∷ ps) (omega arith)

behind_at_most : (ps : List Frac) → AreAtMostOne ps → 0 < length ps → AreAtMostOne (ps ++ lacking_behind ps)
behind_at_most [] all some = absurd (omega arith)
behind_at_most (p ∷ []) all some = decided (nat_eq p.num p.den) refl
  where
    decided : (b : Bool) → nat_eq p.num p.den ≡ b → AreAtMostOne ((p ∷ []) ++ lacking_behind (p ∷ []))
    decided true is = rw is all
    decided false is = rw is (all.0, ((let low : 1 ≤ 1 = omega arith in low), tt))
behind_at_most (p ∷ q ∷ ps) all some = (all.0, behind_at_most (q ∷ ps) all.1 (omega arith))

-- a point in front leaves the end
ends_behind : (p : Frac) (ps : List Frac) → EndsAtOne ps → EndsAtOne (p ∷ ps)
ends_behind p [] ends = absurd ends
ends_behind p (q ∷ ps) ends = ends

front_ends : (p : Frac) (ps : List Frac) → EndsAtOne (p ∷ ps) → EndsAtOne (lacking_front (p ∷ ps) ++ p ∷ ps)
front_ends p ps ends = decided (nat_eq p.num 0) refl
  where
    decided : (b : Bool) → nat_eq p.num 0 ≡ b → EndsAtOne (lacking_front (p ∷ ps) ++ p ∷ ps)
    decided true is = rw is ends
    decided false is = rw is ends

-- points, filled at both sides
at_both_sides : (p : Frac) (ps : List Frac) → filled (p ∷ ps) ≡ lacking_front (p ∷ ps) ++ p ∷ (ps ++ lacking_behind (p ∷ ps))
at_both_sides p ps = append_assoc (lacking_front (p ∷ ps)) (p ∷ ps) (lacking_behind (p ∷ ps))

pub filled_is : (ps : List Frac) → 0 < length ps → Rise ps → AreAtMostOne ps → IsFilled (filled ps)
filled_is [] some rise all = absurd (omega arith)
filled_is (p ∷ ps) some rise all =
    let rises = behind_rises (p ∷ ps) rise all (omega arith) in
    let ends = behind_ends (p ∷ ps) (omega arith) in
    subst IsFilled (sym (at_both_sides p ps)) (record {
      rises = front_rises p (ps ++ lacking_behind (p ∷ ps)) (first_rises p ps rises);
      begins = front_begins p (ps ++ lacking_behind (p ∷ ps));
      ends = front_ends p (ps ++ lacking_behind (p ∷ ps)) (first_ends p ps ends);
    })
  where
    first_rises : (p : Frac) (ps : List Frac) → Rise ((p ∷ ps) ++ lacking_behind (p ∷ ps)) → Rise (p ∷ (ps ++ lacking_behind (p ∷ ps)))
    first_rises p ps rise = rise

    first_ends : (p : Frac) (ps : List Frac) → EndsAtOne ((p ∷ ps) ++ lacking_behind (p ∷ ps)) → EndsAtOne (p ∷ (ps ++ lacking_behind (p ∷ ps)))
    first_ends p ps ends = ends

filled_at_most : (ps : List Frac) → 0 < length ps → AreAtMostOne ps → AreAtMostOne (filled ps)
filled_at_most [] some all = absurd (omega arith)
filled_at_most (p ∷ ps) some all =
    subst AreAtMostOne (sym (at_both_sides p ps))
    (front_at_most p (ps ++ lacking_behind (p ∷ ps)) (behind_at_most (p ∷ ps) all (omega arith)))

pub filled_longer : (ps : List Frac) → length ps ≤ length (filled ps)
filled_longer ps =
    let outer = length-append (lacking_front ps ++ ps) (lacking_behind ps) in
    let inner = length-append (lacking_front ps) ps in
    omega arith

-- what is filled lacks nothing
nothing_in_front : (ps : List Frac) → BeginsAtZero ps → lacking_front ps ≡ []
nothing_in_front [] begins = absurd begins
nothing_in_front (p ∷ ps) begins = rw (eq_true p.num 0 begins)

nothing_behind : (ps : List Frac) → EndsAtOne ps → lacking_behind ps ≡ []
nothing_behind [] ends = absurd ends
nothing_behind (p ∷ []) ends = rw (eq_true p.num p.den ends)
nothing_behind (p ∷ q ∷ ps) ends = nothing_behind (q ∷ ps) ends

pub filled_again : (ps : List Frac) → IsFilled ps → filled ps ≡ ps
filled_again ps is =
    ap₂ (λ front behind. front ++ ps ++ behind) (nothing_in_front ps is.begins) (nothing_behind ps is.ends) ∙ append-nil ps

-- what is filled is a sequence
pub filled_sequence : (ps : List Frac) → IsSequence ps → IsSequence (filled ps)
filled_sequence ps is =
    let some : 0 < length ps = (let two = is.some in omega arith) in
    let whole = filled_is ps some is.rises is.at_most_one in
    let longer = filled_longer ps in
    let two = is.some in
    record {
      some = omega arith;
      rises = whole.rises;
      at_most_one = filled_at_most ps some is.at_most_one;
      few = subst (λ n. n ≤ most_segments) (ap (λ qs. length (segments_of qs)) (sym (filled_again (filled ps) whole))) is.few;
    }

-- how many points are lacking
abbrev pub one_if : Bool → ℕ
one_if b = if b then 1 else 0

pub length_filled : (ps : List Frac) (front behind : Bool) →
    lacking_front ps ≡ (if front then zero_point ∷ [] else []) → lacking_behind ps ≡ (if behind then one_point ∷ [] else []) →
    length (filled ps) ≡ length ps + one_if front + one_if behind
length_filled ps front behind front_is behind_is =
    let outer = length-append (lacking_front ps ++ ps) (lacking_behind ps) in
    let inner = length-append (lacking_front ps) ps in
    let front_long : length (lacking_front ps) ≡ one_if front = ap length front_is ∙ of_front front in
    let behind_long : length (lacking_behind ps) ≡ one_if behind = ap length behind_is ∙ of_behind behind in
    omega arith
  where
    of_front : (b : Bool) → length (if b then zero_point ∷ [] else []) ≡ one_if b
    of_front true = refl
    of_front false = refl

    of_behind : (b : Bool) → length (if b then one_point ∷ [] else []) ≡ one_if b
    of_behind true = refl
    of_behind false = refl

-- points that were counted when they are filled are few or many
pub few_counted : (ps shown : List Frac) (count : ℕ) → shown ≡ ps → count ≡ length (filled shown) → count ≤ 101 →
    length (segments_of (filled ps)) ≤ most_segments
few_counted ps shown count same is short =
    let long = length_segments (filled ps) in
    let as_long = ap (λ qs. length (filled qs)) same in
    omega arith

pub many_counted : (ps shown : List Frac) (count : ℕ) → shown ≡ ps → count ≡ length (filled shown) → 101 < count →
    most_segments < length (segments_of (filled ps))
many_counted ps shown count same is longer =
    let long = length_segments (filled ps) in
    let as_long = ap (λ qs. length (filled qs)) same in
    omega arith

-- points that were looked at are a sequence
pub sequence_seen : (ps shown : List Frac) → shown ≡ ps → 2 ≤ length ps → Rise shown → AreAtMostOne shown →
    length (segments_of (filled ps)) ≤ most_segments → IsSequence ps
sequence_seen ps shown same some rise all few = record {
  some = some;
  rises = subst Rise same rise;
  at_most_one = subst AreAtMostOne same all;
  few = few;
}

-- the last point decides what is lacking behind
last_at : (ps : List Frac) (i : ℕ) (d : Frac) → suc i ≡ length ps →
    lacking_behind ps ≡ (if nat_eq (get_or ps i d).num (get_or ps i d).den then [] else one_point ∷ [])
last_at [] i d is = absurd (omega arith)
last_at (p ∷ []) zero d is = refl
last_at (p ∷ []) (suc i) d is = absurd (omega arith)
last_at (p ∷ q ∷ ps) zero d is = absurd (omega arith)
last_at (p ∷ q ∷ ps) (suc i) d is = last_at (q ∷ ps) i d (omega arith)

turned : (b : Bool) → (if b then [] else one_point ∷ []) ≡ (if not b then one_point ∷ [] else [])
turned true = refl
turned false = refl

pub last_decides : (ps : List Frac) (p : Frac) → 0 < length ps → p ≡ get_or ps (length ps - 1) p →
    lacking_behind ps ≡ (if not (nat_eq p.num p.den) then one_point ∷ [] else [])
last_decides ps p some is =
    last_at ps (length ps - 1) p (omega arith)
    ∙ ap (λ (q : Frac). if nat_eq q.num q.den then [] else one_point ∷ []) (sym is)
    ∙ turned (nat_eq p.num p.den)

-- the points of a segment are there
pub below_points : (ps qs : List Frac) (i : ℕ) → ps ≡ qs → i < length (segments_of qs) → suc i < length ps
below_points ps qs i same below =
    let long = length_segments qs in
    let as_long = ap length same in
    omega arith

-- the segment between two points
pub segment_is : (ps qs : List Frac) (i : ℕ) (p q : Frac) → ps ≡ qs → i < length (segments_of qs) →
    p ≡ get_or ps i p → q ≡ get_or ps (i + 1) q → slice_get (segments_of qs) i ≡ Some (p, q)
segment_is ps qs i p q same below p_is q_is =
    ap (λ rs. slice_get (segments_of rs) i) (sym same)
    ∙ segment_at ps i p q (below_points ps qs i same below)
    ∙ ap₂ (λ x y. Some (x, y)) (sym p_is) (ap (λ n. get_or ps n q) (let e : suc i ≡ i + 1 = omega arith in e) ∙ sym q_is)

pub segment_rises : (ps qs : List Frac) (i : ℕ) (p q : Frac) → ps ≡ qs → i < length (segments_of qs) → Rise ps →
    p ≡ get_or ps i p → q ≡ get_or ps (i + 1) q → IsBelow p q
segment_rises ps qs i p q same below rise p_is q_is =
    subst (λ (x : Frac). IsBelow x q) (sym p_is)
    (subst (λ (y : Frac). IsBelow (get_or ps i p) y) (ap (λ n. get_or ps n q) (let e : suc i ≡ i + 1 = omega arith in e) ∙ sym q_is)
    (rise_at ps i p q (below_points ps qs i same below) rise))

pub segment_within : (ps qs : List Frac) (i : ℕ) (q : Frac) → ps ≡ qs → i < length (segments_of qs) → AreAtMostOne ps →
    q ≡ get_or ps (i + 1) q → IsAtMostOne q
segment_within ps qs i q same below all q_is =
    subst (λ (y : Frac). IsAtMostOne y) (sym q_is)
    (all_at IsAtMostOne ps (i + 1) q (let there = below_points ps qs i same below in omega arith) all)

-- a segment that stands at a position lies between two points
some_is : (p q : Frac × Frac) → Some p ≡ Some q → p ≡ q
some_is p q same = cc

pub record Between (ps : List Frac) (k : ℕ) (s : Frac × Frac) : Type 0 where
  pub below : suc k < length ps
  pub begins : get_or ps k zero_point ≡ s.0
  pub ends : get_or ps (suc k) zero_point ≡ s.1

between : (ps : List Frac) (k : ℕ) (s : Frac × Frac) → slice_get (segments_of ps) k ≡ Some s → Between ps k s
between ps k s is =
    let within = slice_get_within (segments_of ps) k s is in
    let long = length_segments ps in
    let below : suc k < length ps = omega arith in
    let same = some_is (get_or ps k zero_point, get_or ps (suc k) zero_point) s (sym (segment_at ps k zero_point zero_point below) ∙ is) in
    record {
      below = below;
      begins = ap (λ (pair : Frac × Frac). pair.0) same;
      ends = ap (λ (pair : Frac × Frac). pair.1) same;
    }

pub segments_meet : (ps : List Frac) (k : ℕ) (s t : Frac × Frac) → slice_get (segments_of ps) k ≡ Some s →
    slice_get (segments_of ps) (k + 1) ≡ Some t → t.0 ≡ s.1
segments_meet ps k s t at_k at_next =
    sym (between ps (k + 1) t at_next).begins
    ∙ ap (λ n. get_or ps n zero_point) (let e : k + 1 ≡ suc k = omega arith in e)
    ∙ (between ps k s at_k).ends

pub segments_rise : (ps : List Frac) (k : ℕ) (s : Frac × Frac) → IsSequence ps → slice_get (segments_of ps) k ≡ Some s →
    IsBelow s.0 s.1 × IsAtMostOne s.1
segments_rise ps k s is at_k =
    let here = between ps k s at_k in (
      subst (λ (p : Frac). IsBelow p s.1) here.begins
          (subst (λ (q : Frac). IsBelow (get_or ps k zero_point) q) here.ends (rise_at ps k zero_point zero_point here.below is.rises)),
      subst (λ (q : Frac). IsAtMostOne q) here.ends (all_at IsAtMostOne ps (suc k) zero_point here.below is.at_most_one),
    )

-- points that rise are apart
below_later : (p q r : Frac) → IsBelow p q → IsBelow q r → IsBelow p r
below_later p q r pq qr =
    let r_some : 0 < r.den = (let some = r.positive in omega arith) in
    let p_some : 0 < p.den = (let some = p.positive in omega arith) in
    let left : p.num * q.den * r.den < q.num * p.den * r.den = mul-lt-mul_of_pos_right pq r_some in
    let right : q.num * r.den * p.den < r.num * q.den * p.den = mul-lt-mul_of_pos_right qr p_some in
    let both : p.num * r.den * q.den < r.num * p.den * q.den = omega arith in
    lt_of_mul-lt-mul_right q.den both

below_all : (p : Frac) (ps : List Frac) → Rise (p ∷ ps) → (k : ℕ) (d : Frac) → k < length ps → IsBelow p (get_or ps k d)
below_all p [] rise k d below = absurd (omega arith)
below_all p (q ∷ ps) rise zero d below = rise.0
below_all p (q ∷ ps) rise (suc k) d below =
    below_later p q (get_or ps k d) rise.0 (below_all q ps rise.1 k d (omega arith))

apart : (ps : List Frac) (j k : ℕ) (d : Frac) → Rise ps → j < k → k < length ps → IsBelow (get_or ps j d) (get_or ps k d)
apart [] j k d rise before below = absurd (omega arith)
apart (p ∷ ps) j zero d rise before below = absurd (omega arith)
apart (p ∷ ps) zero (suc k) d rise before below = below_all p ps rise k d (omega arith)
apart (p ∷ []) (suc j) (suc k) d rise before below = absurd (omega arith)
apart (p ∷ q ∷ ps) (suc j) (suc k) d rise before below = apart (q ∷ ps) j k d rise.1 (omega arith) (omega arith)

not_below : (p q : Frac) → p ≡ q → IsBelow p q → ⊥
not_below p q same below =
    let num = ap (λ (x : Frac). x.num) same in
    let den = ap (λ (x : Frac). x.den) same in
    let equal : p.num * q.den ≡ q.num * p.den = rw (num, den) in
    omega arith

pub one_position : (ps : List Frac) (j k : ℕ) (s : Frac × Frac) → IsSequence ps → slice_get (segments_of ps) j ≡ Some s →
    slice_get (segments_of ps) k ≡ Some s → j ≡ k
one_position ps j k s is at_j at_k =
    let left = between ps j s at_j in
    let right = between ps k s at_k in
    let same : get_or ps j zero_point ≡ get_or ps k zero_point = left.begins ∙ sym right.begins in
    let left_below = left.below in
    let right_below = right.below in
    elim (dec_lt j k) [
      | yes before ↦ absurd (not_below _ _ same (apart ps j k zero_point is.rises before (omega arith)))
      | no not_before ↦
          elim (dec_lt k j) [
            | yes behind ↦ absurd (not_below _ _ (sym same) (apart ps k j zero_point is.rises behind (omega arith)))
            | no not_behind ↦ omega arith
          ]
    ]

-- at most one point is lacking at each side
pub front_short : (ps : List Frac) → length (lacking_front ps) ≤ 1
front_short [] = omega arith
front_short (p ∷ ps) = decided (nat_eq p.num 0) refl
  where
    decided : (b : Bool) → nat_eq p.num 0 ≡ b → length (lacking_front (p ∷ ps)) ≤ 1
    decided true is = rw is (omega arith)
    decided false is = rw is (omega arith)

pub behind_short : (ps : List Frac) → length (lacking_behind ps) ≤ 1
behind_short [] = omega arith
behind_short (p ∷ []) = decided (nat_eq p.num p.den) refl
  where
    decided : (b : Bool) → nat_eq p.num p.den ≡ b → length (lacking_behind (p ∷ [])) ≤ 1
    decided true is = rw is (omega arith)
    decided false is = rw is (omega arith)
behind_short (p ∷ q ∷ ps) = behind_short (q ∷ ps)

-- one or two points, filled, are few
pub filled_short : (ps : List Frac) → length ps ≤ 2 → length (segments_of (filled ps)) ≤ most_segments
filled_short ps short =
    let outer = length-append (lacking_front ps ++ ps) (lacking_behind ps) in
    let inner = length-append (lacking_front ps) ps in
    let long = length_segments (filled ps) in
    let front = front_short ps in
    let behind = behind_short ps in
    omega arith

-- segments stay where points are added
segments_before : (ps more : List Frac) (k : ℕ) (s : Frac × Frac) → slice_get (segments_of ps) k ≡ Some s →
    slice_get (segments_of (ps ++ more)) k ≡ Some s
segments_before [] more k s is = cc
segments_before (p ∷ []) more k s is = cc
segments_before (p ∷ q ∷ ps) more zero s is = is
segments_before (p ∷ q ∷ ps) more (suc k) s is = segments_before (q ∷ ps) more k s is

pub segments_kept : (ps : List Frac) (k : ℕ) (s : Frac × Frac) → slice_get (segments_of ps) k ≡ Some s →
    slice_get (segments_of (filled ps)) (length (lacking_front ps) + k) ≡ Some s
segments_kept [] k s is = cc
segments_kept (p ∷ ps) k s is = decided (nat_eq p.num 0) refl
  where
    decided : (b : Bool) → nat_eq p.num 0 ≡ b →
        slice_get (segments_of (filled (p ∷ ps))) (length (lacking_front (p ∷ ps)) + k) ≡ Some s
    decided true front =
        rw front
        (subst (λ n. slice_get (segments_of ((p ∷ ps) ++ lacking_behind (p ∷ ps))) n ≡ Some s) (let e : k ≡ 0 + k = omega arith in e)
        (segments_before (p ∷ ps) (lacking_behind (p ∷ ps)) k s is))
    decided false front =
        rw front
        (subst (λ n. slice_get (segments_of (zero_point ∷ ((p ∷ ps) ++ lacking_behind (p ∷ ps)))) n ≡ Some s) (let e : suc k ≡ 1 + k = omega arith in e)
        (segments_before (p ∷ ps) (lacking_behind (p ∷ ps)) k s is))
