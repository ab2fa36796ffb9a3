-- Facts of lists, and where they end.
use Rattle.std.proofs.Common.{◌≡◌, ◌<◌, ◌≤◌, ◌+◌, ◌-◌, ◌∙◌, ◌∷◌, [], ℕ, zero, suc, List, length, get_or, take, arith, ap, sym, subst}
use Rattle.std.specs.List.{AllByRecursion}
use Rattle.ld_num.specs.declared.fraction.Frac.{Frac}
use Rattle.ld_segment.specs.Points.{IsAtMostOne, IsBelow, Rise}
use Rattle.ld_segment.specs.Refusal.{AreAtMostOne, EndsAt, Meet, RefusesPoints}
use Rattle.ld_segment.specs.declared.segment.Segment.{Segment}
use Rattle.ld_segment.specs.declared.fault.SegmentFault.{SegmentFault}
use Rattle.ld_segment.specs.declared.fault.SegmentFault.TheVariants.{Number, BelowZero, NotLess, AboveOne, Gap, FewPoints, PeriodTooLarge, TooMany, Memory}

-- what holds of each element
all_more : {X : Type 0} (P : X → Type 0) (xs : List X) (i : ℕ) (d : X) → i < length xs →
    AllByRecursion P (take i xs) → P (get_or xs i d) → AllByRecursion P (take (suc i) xs)
all_more P [] i d below all here = absurd (omega arith)
all_more P (x ∷ xs) zero d below all here = (here, tt)
all_more P (x ∷ xs) (suc i) d below all here = (all.0, all_more P xs i d (omega arith) all.1 here)

all_here : {X : Type 0} (P : X → Type 0) (xs : List X) (i : ℕ) (d : X) → i < length xs →
    AllByRecursion P (take (suc i) xs) → P (get_or xs i d)
all_here P [] i d below all = absurd (omega arith)
all_here P (x ∷ xs) zero d below all = all.0
all_here P (x ∷ xs) (suc i) d below all = all_here P xs i d (omega arith) all.1

pub all_front : {X : Type 0} (P : X → Type 0) (xs : List X) (i : ℕ) → AllByRecursion P xs → AllByRecursion P (take i xs)
all_front P [] zero all = tt
all_front P [] (suc i) all = tt
all_front P (x ∷ xs) zero all = tt
all_front P (x ∷ xs) (suc i) all = (all.0, all_front P xs i all.1)

pub all_at : {X : Type 0} (P : X → Type 0) (xs : List X) (i : ℕ) (d : X) → i < length xs → AllByRecursion P xs → P (get_or xs i d)
all_at P [] i d below all = absurd (omega arith)
all_at P (x ∷ xs) zero d below all = all.0
all_at P (x ∷ xs) (suc i) d below all = all_at P xs i d (omega arith) all.1

pub at_most_more : (ps : List Frac) (i : ℕ) (d : Frac) → i < length ps → AreAtMostOne (take i ps) →
    IsAtMostOne (get_or ps i d) → AreAtMostOne (take (i + 1) ps)
at_most_more ps i d below all here =
    subst (λ n. AreAtMostOne (take n ps)) (let e : suc i ≡ i + 1 = omega arith in e) (all_more IsAtMostOne ps i d below all here)

pub at_most_ends : (ps : List Frac) (i : ℕ) (d : Frac) → i < length ps → AreAtMostOne (take i ps) →
    (IsAtMostOne (get_or ps i d) → ⊥) → EndsAt AreAtMostOne ps i
at_most_ends ps i d below all not_here = (
  all,
  λ more. not_here (all_here IsAtMostOne ps i d below
      (subst (λ n. AreAtMostOne (take n ps)) (let e : i + 1 ≡ suc i = omega arith in e) more)),
)

-- points that rise
rise_more : (ps : List Frac) (i : ℕ) (d e : Frac) → suc i < length ps → Rise (take (suc i) ps) →
    IsBelow (get_or ps i d) (get_or ps (suc i) e) → Rise (take (suc (suc i)) ps)
rise_more [] i d e below rise here = absurd (omega arith)
rise_more (p ∷ []) i d e below rise here = absurd (omega arith)
rise_more (p ∷ q ∷ ps) zero d e below rise here = (here, tt)
rise_more (p ∷ q ∷ ps) (suc i) d e below rise here = (rise.0, rise_more (q ∷ ps) i d e (omega arith) rise.1 here)

rise_here : (ps : List Frac) (i : ℕ) (d e : Frac) → suc i < length ps → Rise (take (suc (suc i)) ps) →
    IsBelow (get_or ps i d) (get_or ps (suc i) e)
rise_here [] i d e below rise = absurd (omega arith)
rise_here (p ∷ []) i d e below rise = absurd (omega arith)
rise_here (p ∷ q ∷ ps) zero d e below rise = rise.0
rise_here (p ∷ q ∷ ps) (suc i) d e below rise = rise_here (q ∷ ps) i d e (omega arith) rise.1

pub rise_front : (ps : List Frac) (i : ℕ) → Rise ps → Rise (take i ps)
rise_front [] zero rise = tt
rise_front [] (suc i) rise = tt
rise_front (p ∷ ps) zero rise = tt
rise_front (p ∷ []) (suc zero) rise = tt
rise_front (p ∷ []) (suc (suc i)) rise = tt
rise_front (p ∷ q ∷ ps) (suc zero) rise = tt
rise_front (p ∷ q ∷ ps) (suc (suc i)) rise = (rise.0, rise_front (q ∷ ps) (suc i) rise.1)

pub rise_at : (ps : List Frac) (i : ℕ) (d e : Frac) → suc i < length ps → Rise ps → IsBelow (get_or ps i d) (get_or ps (suc i) e)
rise_at [] i d e below rise = absurd (omega arith)
rise_at (p ∷ []) i d e below rise = absurd (omega arith)
rise_at (p ∷ q ∷ ps) zero d e below rise = rise.0
rise_at (p ∷ q ∷ ps) (suc i) d e below rise = rise_at (q ∷ ps) i d e (omega arith) rise.1

pub rise_first : (ps : List Frac) → Rise (take 1 ps)
rise_first [] = tt
rise_first (p ∷ ps) = tt

-- what was found at a place, and at the one before it
rise_found : (ps : List Frac) (i : ℕ) (x y : Frac) → x ≡ get_or ps (suc i - 1) x → y ≡ get_or ps (suc i) y →
    IsBelow x y → IsBelow (get_or ps i x) (get_or ps (suc i) y)
rise_found ps i x y x_is y_is here =
    subst (λ (z : Frac). IsBelow (get_or ps i x) z) y_is
    (subst (λ (z : Frac). IsBelow z y) (x_is ∙ ap (λ n. get_or ps n x) (let e : suc i - 1 ≡ i = omega arith in e)) here)

rise_meant : (ps : List Frac) (i : ℕ) (x y : Frac) → x ≡ get_or ps (suc i - 1) x → y ≡ get_or ps (suc i) y →
    IsBelow (get_or ps i x) (get_or ps (suc i) y) → IsBelow x y
rise_meant ps i x y x_is y_is here =
    subst (λ (z : Frac). IsBelow x z) (sym y_is)
    (subst (λ (z : Frac). IsBelow z (get_or ps (suc i) y)) (sym (x_is ∙ ap (λ n. get_or ps n x) (let e : suc i - 1 ≡ i = omega arith in e))) here)

pub rise_next : (ps : List Frac) (n : ℕ) (x y : Frac) → 1 ≤ n → n < length ps → Rise (take n ps) →
    x ≡ get_or ps (n - 1) x → y ≡ get_or ps n y → IsBelow x y → Rise (take (n + 1) ps)
rise_next ps zero x y some below so_far x_is y_is here = absurd (omega arith)
rise_next ps (suc i) x y some below so_far x_is y_is here =
    subst (λ n. Rise (take n ps)) (let e : suc (suc i) ≡ suc i + 1 = omega arith in e)
    (rise_more ps i x y below so_far (rise_found ps i x y x_is y_is here))

pub rise_ends : (ps : List Frac) (n : ℕ) (x y : Frac) → 1 ≤ n → n < length ps → Rise (take n ps) →
    x ≡ get_or ps (n - 1) x → y ≡ get_or ps n y → (IsBelow x y → ⊥) → EndsAt Rise ps n
rise_ends ps zero x y some below so_far x_is y_is not_here = absurd (omega arith)
rise_ends ps (suc i) x y some below so_far x_is y_is not_here = (
  so_far,
  λ more. not_here (rise_meant ps i x y x_is y_is
      (rise_here ps i x y below (subst (λ n. Rise (take n ps)) (let e : suc i + 1 ≡ suc (suc i) = omega arith in e) more))),
)

-- segments that meet
meet_more : (ss : List Segment) (i : ℕ) (d e : Segment) → suc i < length ss → Meet (take (suc i) ss) →
    (get_or ss i d).to ≡ (get_or ss (suc i) e).from → Meet (take (suc (suc i)) ss)
meet_more [] i d e below meet here = absurd (omega arith)
meet_more (s ∷ []) i d e below meet here = absurd (omega arith)
meet_more (s ∷ t ∷ ss) zero d e below meet here = (here, tt)
meet_more (s ∷ t ∷ ss) (suc i) d e below meet here = (meet.0, meet_more (t ∷ ss) i d e (omega arith) meet.1 here)

meet_here : (ss : List Segment) (i : ℕ) (d e : Segment) → suc i < length ss → Meet (take (suc (suc i)) ss) →
    (get_or ss i d).to ≡ (get_or ss (suc i) e).from
meet_here [] i d e below meet = absurd (omega arith)
meet_here (s ∷ []) i d e below meet = absurd (omega arith)
meet_here (s ∷ t ∷ ss) zero d e below meet = meet.0
meet_here (s ∷ t ∷ ss) (suc i) d e below meet = meet_here (t ∷ ss) i d e (omega arith) meet.1

pub meet_front : (ss : List Segment) (i : ℕ) → Meet ss → Meet (take i ss)
meet_front [] zero meet = tt
meet_front [] (suc i) meet = tt
meet_front (s ∷ ss) zero meet = tt
meet_front (s ∷ []) (suc zero) meet = tt
meet_front (s ∷ []) (suc (suc i)) meet = tt
meet_front (s ∷ t ∷ ss) (suc zero) meet = tt
meet_front (s ∷ t ∷ ss) (suc (suc i)) meet = (meet.0, meet_front (t ∷ ss) (suc i) meet.1)

pub meet_first : (ss : List Segment) → Meet (take 1 ss)
meet_first [] = tt
meet_first (s ∷ ss) = tt

-- what was found at a place, and at the one before it
meet_found : (ss : List Segment) (i : ℕ) (x y : Segment) → x ≡ get_or ss (suc i - 1) x → y ≡ get_or ss (suc i) y →
    x.to ≡ y.from → (get_or ss i x).to ≡ (get_or ss (suc i) y).from
meet_found ss i x y x_is y_is here =
    subst (λ (z : Segment). (get_or ss i x).to ≡ z.from) y_is
    (subst (λ (z : Segment). z.to ≡ y.from) (x_is ∙ ap (λ n. get_or ss n x) (let e : suc i - 1 ≡ i = omega arith in e)) here)

meet_meant : (ss : List Segment) (i : ℕ) (x y : Segment) → x ≡ get_or ss (suc i - 1) x → y ≡ get_or ss (suc i) y →
    (get_or ss i x).to ≡ (get_or ss (suc i) y).from → x.to ≡ y.from
meet_meant ss i x y x_is y_is here =
    subst (λ (z : Segment). x.to ≡ z.from) (sym y_is)
    (subst (λ (z : Segment). z.to ≡ (get_or ss (suc i) y).from) (sym (x_is ∙ ap (λ n. get_or ss n x) (let e : suc i - 1 ≡ i = omega arith in e))) here)

pub meet_next : (ss : List Segment) (n : ℕ) (x y : Segment) → 1 ≤ n → n < length ss → Meet (take n ss) →
    x ≡ get_or ss (n - 1) x → y ≡ get_or ss n y → x.to ≡ y.from → Meet (take (n + 1) ss)
meet_next ss zero x y some below so_far x_is y_is here = absurd (omega arith)
meet_next ss (suc i) x y some below so_far x_is y_is here =
    subst (λ n. Meet (take n ss)) (let e : suc (suc i) ≡ suc i + 1 = omega arith in e)
    (meet_more ss i x y below so_far (meet_found ss i x y x_is y_is here))

pub meet_ends : (ss : List Segment) (n : ℕ) (x y : Segment) → 1 ≤ n → n < length ss → Meet (take n ss) →
    x ≡ get_or ss (n - 1) x → y ≡ get_or ss n y → (x.to ≡ y.from → ⊥) → EndsAt Meet ss n
meet_ends ss zero x y some below so_far x_is y_is not_here = absurd (omega arith)
meet_ends ss (suc i) x y some below so_far x_is y_is not_here = (
  so_far,
  λ more. not_here (meet_meant ss i x y x_is y_is
      (meet_here ss i x y below (subst (λ n. Meet (take n ss)) (let e : suc i + 1 ≡ suc (suc i) = omega arith in e) more))),
)

-- points that rise to 1 at most aren't refused
pub points_not_refused : (ps : List Frac) → AreAtMostOne ps → Rise ps → (f : SegmentFault) → RefusesPoints ps f → ⊥
points_not_refused ps all rise (AboveOne at) refused = refused.1 (all_front IsAtMostOne ps (at + 1) all)
points_not_refused ps all rise (NotLess at) refused = refused.1.1 (rise_front ps (at + 1) rise)
points_not_refused ps all rise (Number at fault) refused = refused
points_not_refused ps all rise (BelowZero at) refused = refused
points_not_refused ps all rise (Gap at) refused = refused
points_not_refused ps all rise FewPoints refused = refused
points_not_refused ps all rise (PeriodTooLarge period) refused = refused
points_not_refused ps all rise TooMany refused = refused
points_not_refused ps all rise Memory refused = refused
