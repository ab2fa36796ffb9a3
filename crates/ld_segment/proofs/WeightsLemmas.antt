-- The weights are the differences of the parts that lie below neighbouring points.
use Rattle.std.proofs.Common.{◌≡◌, ◌<◌, ◌≤◌, ◌+◌, ◌-◌, ◌*◌, ◌/◌, ◌∷◌, ◌++◌, ◌∙◌, [], ℕ, zero, suc, List, length, get_or, map, take, arith, ap, ap₂, refl, sym, subst}
use Rattle.std.specs.Prelude.{All, sum}
use Rattle.std.specs.List.{AllZip}
use Rattle.std.specs.Int.{◌∣◌}
use Rattle.std.proofs.Math.Nat.{dvd-mul_left, eq_of_mul-eq-mul_left, le_of_dvd, mul-div_cancel', mul-zero, dvd-add, dvd-zero, zero-mul, mul-le-mul_right}
use Rattle.std.proofs.Math.Decide.{dec_lt}
use Rattle.std.proofs.lemmas.List.{get_or-map, get_or_read, length-map, take_all}
use Rattle.std.proofs.lemmas.List.Elements.{All-cons, All-head, All-nil, All-tail}
use Rattle.std.proofs.lemmas.List.Sums.{sum_by-cons}
use Rattle.ld_num.specs.declared.fraction.Frac.{Frac}
use Rattle.ld_segment.specs.Points.{EndsAtOne, IsAtMostOne, IsBelow, IsFilled, Rise}
use Rattle.ld_segment.specs.Weights.{AllDivide, AreLengths, HasPeriod, HasWeights, IsLength, IsWeight, denominators}
use Rattle.ld_segment.proofs.WeightsLengthLemmas.{divides_second, parts, parts_differ, parts_rise, parts_times}
use Rattle.ld_segment.proofs.WeightsPeriodLemmas.{divides_at, period_positive, period_unique, points_from_period}

-- how far each number is above the one before it
pub differences : List ℕ → List ℕ
differences [] = []
differences (x ∷ []) = []
differences (x ∷ y ∷ rest) = (y - x) ∷ differences (y ∷ rest)

-- the parts that lie below each point
abbrev pub all_parts : ℕ → List Frac → List ℕ
all_parts m points = map (λ p. parts m p) points

-- the weights of a sequence are the differences
weight_is : (m w : ℕ) (p q span : Frac) → IsLength p q span → p.den ∣ m → q.den ∣ m → IsWeight m span w →
    w ≡ parts m q - parts m p
weight_is m w p q span is of_p of_q weight =
    let differ = parts_differ m p q span is of_p of_q in
    let scaled : span.den * (w + parts m p) ≡ span.den * parts m q = omega arith in
    let sum = eq_of_mul-eq-mul_left span.den span.positive (w + parts m p) (parts m q) scaled in
    omega arith

is_weight : (m : ℕ) (p q span : Frac) → IsLength p q span → p.den ∣ m → q.den ∣ m → parts m p ≤ parts m q →
    IsWeight m span (parts m q - parts m p)
is_weight m p q span is of_p of_q rise =
    let differ = parts_differ m p q span is of_p of_q in
    let split : (parts m q - parts m p + parts m p) * span.den ≡ parts m q * span.den =
    ap (λ n. n * span.den) (let e : parts m q - parts m p + parts m p ≡ parts m q = omega arith in e) in
    omega arith

pub weights_are : (m : ℕ) (points spans : List Frac) (weights : List ℕ) → AreLengths points spans →
    AllDivide (denominators points) m → AllZip (IsWeight m) spans weights → weights ≡ differences (all_parts m points)
unfolding differences
weights_are m [] [] [] are all each = refl
weights_are m [] [] (w ∷ ws) are all each = absurd each
weights_are m [] (span ∷ spans) weights are all each = absurd are
weights_are m (p ∷ []) [] [] are all each = refl
weights_are m (p ∷ []) [] (w ∷ ws) are all each = absurd each
weights_are m (p ∷ []) (span ∷ spans) weights are all each = absurd are
weights_are m (p ∷ q ∷ rest) [] weights are all each = absurd are
weights_are m (p ∷ q ∷ rest) (span ∷ spans) [] are all each = absurd each
weights_are m (p ∷ q ∷ rest) (span ∷ spans) (w ∷ ws) are all each =
    let behind = All-tail (λ n. n ∣ m) p.den (denominators (q ∷ rest)) all in
    let of_p = All-head (λ n. n ∣ m) p.den (denominators (q ∷ rest)) all in
    let of_q = All-head (λ n. n ∣ m) q.den (denominators rest) behind in
    ap₂ (λ x xs. x ∷ xs) (weight_is m w p q span are.0 of_p of_q each.0)
    (weights_are m (q ∷ rest) spans ws are.1 behind each.1)

-- and the differences are weights
pub are_weights : (m : ℕ) (points spans : List Frac) → 0 < m → Rise points → AreLengths points spans →
    AllDivide (denominators points) m → AllZip (IsWeight m) spans (differences (all_parts m points))
unfolding differences
are_weights m [] [] positive rises are all = tt
are_weights m [] (span ∷ spans) positive rises are all = absurd are
are_weights m (p ∷ []) [] positive rises are all = tt
are_weights m (p ∷ []) (span ∷ spans) positive rises are all = absurd are
are_weights m (p ∷ q ∷ rest) [] positive rises are all = absurd are
are_weights m (p ∷ q ∷ rest) (span ∷ spans) positive rises are all =
    let behind = All-tail (λ n. n ∣ m) p.den (denominators (q ∷ rest)) all in
    let of_p = All-head (λ n. n ∣ m) p.den (denominators (q ∷ rest)) all in
    let of_q = All-head (λ n. n ∣ m) q.den (denominators rest) behind in
    let rise = parts_rise m p q positive rises.0 of_p of_q in
    (is_weight m p q span are.0 of_p of_q (omega arith), are_weights m (q ∷ rest) spans positive rises.1 are.1 behind)

-- each is above zero
pub differences_positive : (m : ℕ) (points : List Frac) → 0 < m → Rise points → AllDivide (denominators points) m →
    All (λ w. 0 < w) (differences (all_parts m points))
unfolding differences
differences_positive m [] positive rises all = All-nil (λ w. 0 < w)
differences_positive m (p ∷ []) positive rises all = All-nil (λ w. 0 < w)
differences_positive m (p ∷ q ∷ rest) positive rises all =
    let behind = All-tail (λ n. n ∣ m) p.den (denominators (q ∷ rest)) all in
    let of_p = All-head (λ n. n ∣ m) p.den (denominators (q ∷ rest)) all in
    let of_q = All-head (λ n. n ∣ m) q.den (denominators rest) behind in
    let rise = parts_rise m p q positive rises.0 of_p of_q in
    All-cons (λ w. 0 < w) (parts m q - parts m p) (differences (all_parts m (q ∷ rest))) (omega arith)
    (differences_positive m (q ∷ rest) positive rises.1 behind)

-- all of them and the parts below the first point are the whole test
pub differences_sum : (m : ℕ) (p : Frac) (rest : List Frac) → 0 < m → Rise (p ∷ rest) → EndsAtOne (p ∷ rest) →
    AllDivide (denominators (p ∷ rest)) m → sum (differences (all_parts m (p ∷ rest))) + parts m p ≡ m
unfolding differences
differences_sum m p [] positive rises ends all =
    let of_p = All-head (λ n. n ∣ m) p.den [] all in
    let whole : p.den * (m / p.den) ≡ m = mul-div_cancel' p.den of_p in
    let same : m / p.den * p.num ≡ m / p.den * p.den = ap (λ n. m / p.den * n) ends in
    omega arith
differences_sum m p (q ∷ rest) positive rises ends all =
    let behind = All-tail (λ n. n ∣ m) p.den (denominators (q ∷ rest)) all in
    let of_p = All-head (λ n. n ∣ m) p.den (denominators (q ∷ rest)) all in
    let of_q = All-head (λ n. n ∣ m) q.den (denominators rest) behind in
    let rise = parts_rise m p q positive rises.0 of_p of_q in
    let more = differences_sum m q rest positive rises.1 ends behind in
    let split = sum_by-cons (λ x. x) (parts m q - parts m p) (differences (all_parts m (q ∷ rest))) in
    omega arith

pub differences_length : (x : ℕ) (xs : List ℕ) → length (differences (x ∷ xs)) ≡ length xs
unfolding differences
differences_length x [] = refl
differences_length x (y ∷ ys) = ap suc (differences_length y ys)

-- points that rise to one are at most one
pub at_most_one : (points : List Frac) → Rise points → EndsAtOne points → All IsAtMostOne points
at_most_one [] rises ends = All-nil IsAtMostOne
at_most_one (p ∷ []) rises ends =
    All-cons IsAtMostOne p [] (let whole : p.num ≡ p.den = ends in omega arith) (All-nil IsAtMostOne)
at_most_one (p ∷ q ∷ rest) rises ends =
    let behind = at_most_one (q ∷ rest) rises.1 ends in
    let next : q.num ≤ q.den = All-head IsAtMostOne q rest behind in
    All-cons IsAtMostOne p (q ∷ rest) (under p.num p.den q.num q.den q.positive rises.0 next) behind
  where
    under : (pn pd qn qd : ℕ) → 1 ≤ qd → pn * qd < qn * pd → qn ≤ qd → pn ≤ pd
    under pn pd qn qd positive below next =
        elim (dec_lt pd pn) [
          | yes above ↦
              let most : qn * pd ≤ qd * pd = mul-le-mul_right pd next in
              let more : pd * qd ≤ pn * qd = mul-le-mul_right qd (let le : pd ≤ pn = omega arith in le) in
              absurd (omega arith)
          | no fits ↦ omega arith
        ]

-- the weights of filled points at their period
pub weights_from_points : (m : ℕ) (points : List Frac) → IsFilled points → HasPeriod points m →
    HasWeights points m (differences (all_parts m points))
weights_from_points m points filled has =
    let positive = period_positive points m has in
    let all = points_from_period points m filled has in
    record {
      has_period = has;
      each = are_weights m points has.spans positive filled.rises has.are_lengths all.of_each;
    }

pub points_from_weights : (m : ℕ) (points : List Frac) (weights : List ℕ) → IsFilled points →
    HasWeights points m weights → weights ≡ differences (all_parts m points)
points_from_weights m points weights filled has =
    let all = points_from_period points m filled has.has_period in
    weights_are m points has.has_period.spans weights has.has_period.are_lengths all.of_each has.each

pub weights_unique : (points : List Frac) (m k : ℕ) (a b : List ℕ) → IsFilled points → HasWeights points m a →
    HasWeights points k b → a ≡ b
weights_unique points m k a b filled one other =
    let same = period_unique points m k filled one.has_period other.has_period in
    points_from_weights m points a filled one
    ∙ ap (λ n. differences (all_parts n points)) same
    ∙ sym (points_from_weights k points b filled other)

-- what the weights are besides
pub weights_positive : (m : ℕ) (points : List Frac) (weights : List ℕ) → IsFilled points →
    HasWeights points m weights → All (λ w. 0 < w) weights
weights_positive m points weights filled has =
    let all = points_from_period points m filled has.has_period in
    let positive = period_positive points m has.has_period in
    subst (λ ws. All (λ w. 0 < w) ws) (sym (points_from_weights m points weights filled has))
    (differences_positive m points positive filled.rises all.of_each)

sum_is : (m : ℕ) (points : List Frac) → 0 < m → IsFilled points → AllDivide (denominators points) m →
    sum (differences (all_parts m points)) ≡ m
sum_is m [] positive filled all = absurd filled.begins
sum_is m (p ∷ rest) positive filled all =
    let whole = differences_sum m p rest positive filled.rises filled.ends all in
    let none : m / p.den * p.num ≡ 0 = ap (λ n. m / p.den * n) filled.begins ∙ mul-zero (m / p.den) in
    omega arith

pub weights_sum : (m : ℕ) (points : List Frac) (weights : List ℕ) → IsFilled points →
    HasWeights points m weights → sum weights ≡ m
weights_sum m points weights filled has =
    let all = points_from_period points m filled has.has_period in
    ap sum (points_from_weights m points weights filled has)
    ∙ sum_is m points (period_positive points m has.has_period) filled all.of_each

length_is : (m : ℕ) (points : List Frac) → IsFilled points → length (differences (all_parts m points)) + 1 ≡ length points
length_is m [] filled = absurd filled.begins
length_is m (p ∷ rest) filled =
    let long = differences_length (parts m p) (all_parts m rest) in
    let same = length-map rest (λ p. parts m p) in
    omega arith

pub weights_length : (m : ℕ) (points : List Frac) (weights : List ℕ) → IsFilled points →
    HasWeights points m weights → length weights + 1 ≡ length points
weights_length m points weights filled has =
    ap (λ ws. length ws + 1) (points_from_weights m points weights filled has) ∙ length_is m points filled

-- what divides all numbers divides their sum
divides_sum : (d : ℕ) (numbers : List ℕ) → All (λ n. d ∣ n) numbers → d ∣ sum numbers
divides_sum d [] all = dvd-zero d
divides_sum d (n ∷ ns) all =
    let head = All-head (λ k. d ∣ k) n ns all in
    let rest = divides_sum d ns (All-tail (λ k. d ∣ k) n ns all) in
    subst (λ k. d ∣ k) (sym (sum_by-cons (λ x. x) n ns)) (dvd-add d head rest)

-- where d divides the weights at d * m, the lengths' denominators divide m
divides_without : (d m : ℕ) (spans : List Frac) (weights : List ℕ) → 0 < d → AllZip (IsWeight (d * m)) spans weights →
    All (λ w. d ∣ w) weights → AllDivide (denominators spans) m
divides_without d m [] weights positive each all = All-nil (λ n. n ∣ m)
divides_without d m (span ∷ spans) [] positive each all = absurd each
divides_without d m (span ∷ spans) (w ∷ ws) positive each all =
    let of_w : d * (w / d) ≡ w = mul-div_cancel' d (All-head (λ k. d ∣ k) w ws all) in
    let rest = divides_without d m spans ws positive each.1 (All-tail (λ k. d ∣ k) w ws all) in
    All-cons (λ n. n ∣ m) span.den (denominators spans) (divides w of_w each.0) rest
  where
    divides : (w : ℕ) → d * (w / d) ≡ w → IsWeight (d * m) span w → span.den ∣ m
    divides w of_w weight =
        let scaled : d * (w / d) * span.den ≡ w * span.den = ap (λ n. n * span.den) of_w in
        let both : d * (w / d * span.den) ≡ d * (span.num * m) = omega arith in
        let same = eq_of_mul-eq-mul_left d positive (w / d * span.den) (span.num * m) both in
        divides_second span.num span.den m span.lowest (subst (λ n. span.den ∣ n) same (dvd-mul_left span.den (w / d)))

-- no number but 1 divides all weights
pub weights_lowest : (m : ℕ) (points : List Frac) (weights : List ℕ) → IsFilled points →
    HasWeights points m weights → (d : ℕ) → All (λ w. d ∣ w) weights → d ≡ 1
weights_lowest m points weights filled has d all =
    let some = period_positive points m has.has_period in
    let of_period : d ∣ m = subst (λ n. d ∣ n) (weights_sum m points weights filled has) (divides_sum d weights all) in
    let whole : d * (m / d) ≡ m = mul-div_cancel' d of_period in
    elim (dec_lt 0 d) [
      | yes above ↦
          let without = divides_without d (m / d) has.has_period.spans weights above
          (subst (λ n. AllZip (IsWeight n) has.has_period.spans weights) (sym whole) has.each) all in
          let least : m ∣ m / d = has.has_period.is_least.least (m / d) without in
          one d m (m / d) some above whole least
      | no none ↦
          let nothing : d * (m / d) ≡ 0 = ap (λ n. n * (m / d)) (let e : d ≡ 0 = omega arith in e) ∙ zero-mul (m / d) in
          absurd (omega arith)
    ]
  where
    one : (d m k : ℕ) → 0 < m → 0 < d → d * k ≡ m → m ∣ k → d ≡ 1
    one d m k some above whole divides =
        elim (dec_lt 0 k) [
          | yes positive ↦
              let most : m ≤ k = le_of_dvd positive divides in
              elim (dec_lt 1 d) [
                | yes more ↦
                    let twice : 2 * k ≤ d * k = mul-le-mul_right k (let le : 2 ≤ d = omega arith in le) in
                    absurd (omega arith)
                | no once ↦ omega arith
              ]
          | no none ↦
              let nothing : d * k ≡ 0 = ap (λ n. d * n) (let e : k ≡ 0 = omega arith in e) ∙ mul-zero d in
              absurd (omega arith)
        ]

-- the points one after another
pub inside_at : (points : List Frac) (i : ℕ) (p : Frac) → i < length points → p ≡ get_or points i p →
    IsFilled points → IsAtMostOne p
inside_at points i p below is filled =
    subst IsAtMostOne (sym is) (at_most_one points filled.rises filled.ends i p below)

-- the parts below a point, where they are known by their product
pub parts_are : (m n : ℕ) (p : Frac) → p.den ∣ m → n * p.den ≡ p.num * m → n ≡ parts m p
parts_are m n p divides is =
    let same = parts_times m p divides in
    eq_of_mul-eq-mul_left p.den p.positive n (parts m p) (let e : p.den * n ≡ p.den * parts m p = omega arith in e)

parts_at : (points : List Frac) (i m n : ℕ) (p : Frac) → i < length points → p ≡ get_or points i p →
    IsFilled points → HasPeriod points m → n * p.den ≡ p.num * m → n ≡ get_or (all_parts m points) i 0
parts_at points i m n p below is filled has product =
    parts_are m n p (divides_at points i m p below is filled has) product
    ∙ ap (λ q. parts m q) is
    ∙ sym (get_or-map (λ q. parts m q) points i p 0 below)

below_next : (points : List Frac) (i : ℕ) (d : Frac) → Rise points → suc i < length points →
    IsBelow (get_or points i d) (get_or points (suc i) d)
below_next [] i d rises below = absurd (omega arith)
below_next (p ∷ []) i d rises below = absurd (omega arith)
below_next (p ∷ q ∷ rest) zero d rises below = rises.0
below_next (p ∷ q ∷ rest) (suc i) d rises below = below_next (q ∷ rest) i d rises.1 (omega arith)

pub next_rises : (points : List Frac) (i j m from to : ℕ) (p q : Frac) → j < length points → i + 1 ≡ j →
    p ≡ get_or points i p → q ≡ get_or points j q → IsFilled points → HasPeriod points m →
    from * p.den ≡ p.num * m → to * q.den ≡ q.num * m → from ≤ to
next_rises points i j m from to p q below next is_p is_q filled has of_from of_to =
    let of_p = divides_at points i m p (omega arith) is_p filled has in
    let of_q = divides_at points j m q below is_q filled has in
    let same_j : suc i ≡ j = omega arith in
    let upper : q ≡ get_or points (suc i) p =
    get_or_read points j q below is_q p ∙ ap (λ k. get_or points k p) (sym same_j) in
    let order : IsBelow p q =
    subst (λ r. IsBelow r q) (sym is_p) (subst (λ r. IsBelow (get_or points i p) r) (sym upper)
    (below_next points i p filled.rises (omega arith))) in
    let rise = parts_rise m p q (period_positive points m has) order of_p of_q in
    let lower = parts_are m from p of_p of_from in
    let higher = parts_are m to q of_q of_to in
    omega arith

-- the differences one after another
pub differences_first : (xs : List ℕ) → differences (take 1 xs) ≡ []
unfolding differences
differences_first [] = refl
differences_first (x ∷ xs) = refl

differences_more : (xs : List ℕ) (i : ℕ) → suc i < length xs →
    differences (take (suc (suc i)) xs) ≡ differences (take (suc i) xs) ++ (get_or xs (suc i) 0 - get_or xs i 0) ∷ []
unfolding differences
differences_more [] i below = absurd (omega arith)
differences_more (x ∷ []) i below = absurd (omega arith)
differences_more (x ∷ y ∷ rest) zero below = refl
differences_more (x ∷ y ∷ rest) (suc i) below = ap (λ xs. (y - x) ∷ xs) (differences_more (y ∷ rest) i (omega arith))

pub next_difference : (points : List Frac) (i j m from to : ℕ) (p q : Frac) → j < length points → i + 1 ≡ j →
    p ≡ get_or points i p → q ≡ get_or points j q → IsFilled points → HasPeriod points m →
    from * p.den ≡ p.num * m → to * q.den ≡ q.num * m → (weights : List ℕ) →
    weights ≡ differences (take j (all_parts m points)) →
    weights ++ (to - from) ∷ [] ≡ differences (take (j + 1) (all_parts m points))
next_difference points i j m from to p q below next is_p is_q filled has of_from of_to weights so_far =
    let same = length-map points (λ r. parts m r) in
    let same_j : suc i ≡ j = omega arith in
    let lower = parts_at points i m from p (omega arith) is_p filled has of_from in
    let upper = parts_at points j m to q below is_q filled has of_to in
    let step = differences_more (all_parts m points) i (omega arith) in
    turn (all_parts m points) i j from to weights same_j lower upper so_far step
  where
    turn : (xs : List ℕ) (i j from to : ℕ) (ws : List ℕ) → suc i ≡ j → from ≡ get_or xs i 0 → to ≡ get_or xs j 0 →
        ws ≡ differences (take j xs) →
        differences (take (suc (suc i)) xs) ≡ differences (take (suc i) xs) ++ (get_or xs (suc i) 0 - get_or xs i 0) ∷ [] →
        ws ++ (to - from) ∷ [] ≡ differences (take (j + 1) xs)
    turn xs i j from to ws same_j lower upper so_far step =
        let same_next : j + 1 ≡ suc (suc i) = omega arith in cc

-- all points are seen
pub all_weights : (points : List Frac) (i m : ℕ) (weights : List ℕ) → length points ≤ i → IsFilled points →
    HasPeriod points m → weights ≡ differences (take i (all_parts m points)) → HasWeights points m weights
all_weights points i m weights past filled has so_far =
    let same = length-map points (λ r. parts m r) in
    let whole = take_all i (all_parts m points) (omega arith) in
    subst (HasWeights points m) (sym (so_far ∙ ap differences whole)) (weights_from_points m points filled has)
