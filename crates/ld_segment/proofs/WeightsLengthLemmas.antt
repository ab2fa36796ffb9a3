-- The length between two points, and the denominators of the three.
use Rattle.std.proofs.Common.{◌≡◌, ◌<◌, ◌≤◌, ◌+◌, ◌-◌, ◌*◌, ◌/◌, ◌%◌, ℕ, zero, suc, arith, ap, sym, subst}
use Rattle.std.specs.Int.{◌∣◌, IsGcd}
use Rattle.std.proofs.Math.Nat.{mul-div_cancel', mul-one, one-dvd, dvd-zero, dvd-mul_left, dvd-sub, eq_of_mul-eq-mul_left, mul-pos, mul-le-mul_right, mul-lt-mul_of_pos_left}
use Rattle.std.proofs.Math.Decide.{dec_lt}
use Rattle.std.proofs.lemmas.Nat.Gcd.{dvd_refl, IsGcd-from_mod, IsGcd-from_zero}
use Rattle.ld_num.specs.Fraction.{HasNumbers}
use Rattle.ld_num.specs.Terms.{AreCoprime}
use Rattle.ld_num.specs.declared.fraction.Frac.{Frac}
use Rattle.ld_num.proofs.LcmLemmas.{divides_times}
use Rattle.ld_num.proofs.FractionLemmas.{quotient_positive, quotients_coprime, same_denominator, same_numerator, same_value}
use Rattle.ld_segment.specs.Points.{IsBelow}
use Rattle.ld_segment.specs.Weights.{IsLength}

-- two numbers have a greatest common divisor
gcd_within : (fuel a b : ℕ) → b < fuel → (g : ℕ) × IsGcd a b g
gcd_within zero a b below = absurd (omega arith)
gcd_within (suc fuel) a b below =
    elim (dec_lt 0 b) [
      | yes above ↦
          let rest = gcd_within fuel b (a % b) (omega arith) in
          (rest.0, IsGcd-from_mod a b rest.0 rest.1)
      | no none ↦ (a, IsGcd-from_zero a b (omega arith))
    ]

pub gcd_of : (a b : ℕ) → (g : ℕ) × IsGcd a b g
gcd_of a b = gcd_within (suc b) a b (omega arith)

coprime_gcd : (a b : ℕ) → AreCoprime a b → IsGcd a b 1
coprime_gcd a b coprime =
    (one-dvd a, one-dvd b, λ d of_a of_b. subst (λ n. n ∣ 1) (sym (coprime d of_a of_b)) (dvd_refl 1))

-- what divides a product and has no divisor in common with the first factor divides the second
pub divides_second : (a b m : ℕ) → AreCoprime a b → b ∣ a * m → b ∣ m
divides_second a b m coprime divides =
    elim (dec_lt 0 m) [
      | yes above ↦
          let of_a : b ∣ m * a = subst (λ n. b ∣ n) (let e : a * m ≡ m * a = omega arith in e) divides in
          let all : b ∣ m * 1 = divides_times m a b 1 b above (coprime_gcd a b coprime) of_a (dvd-mul_left b m) in
          rw mul-one at all
      | no none ↦ subst (λ n. b ∣ n) (let e : 0 ≡ m = omega arith in e) (dvd-zero b)
    ]

-- the number of m equal parts of the test that lie below a point
abbrev pub parts : ℕ → Frac → ℕ
parts m p = m / p.den * p.num

pub parts_times : (m : ℕ) (p : Frac) → p.den ∣ m → parts m p * p.den ≡ p.num * m
parts_times m p divides =
    let whole : p.den * (m / p.den) ≡ m = mul-div_cancel' p.den divides in
    let scaled : p.num * (p.den * (m / p.den)) ≡ p.num * m = ap (λ n. p.num * n) whole in
    omega arith

-- the parts below the two points differ by the length's: span + p = q at m equal parts
pub parts_differ : (m : ℕ) (p q span : Frac) → IsLength p q span → p.den ∣ m → q.den ∣ m →
    span.num * m + parts m p * span.den ≡ parts m q * span.den
parts_differ m p q span is of_p of_q =
    eq_of_mul-eq-mul_left (p.den * q.den) (mul-pos p.positive q.positive)
    (span.num * m + parts m p * span.den) (parts m q * span.den)
    (scaled m (parts m p) (parts m q) p.num p.den q.num q.den span.num span.den
    (parts_times m p of_p) (parts_times m q of_q) is)
  where
    scaled : (m a b pn pd qn qd sn sd : ℕ) → a * pd ≡ pn * m → b * qd ≡ qn * m →
        (pn * sd + sn * pd) * qd ≡ qn * (pd * sd) →
        pd * qd * (sn * m + a * sd) ≡ pd * qd * (b * sd)
    scaled m a b pn pd qn qd sn sd of_p of_q is =
        let left : a * pd * (sd * qd) ≡ pn * m * (sd * qd) = ap (λ n. n * (sd * qd)) of_p in
        let right : b * qd * (pd * sd) ≡ qn * m * (pd * sd) = ap (λ n. n * (pd * sd)) of_q in
        let all : (pn * sd + sn * pd) * qd * m ≡ qn * (pd * sd) * m = ap (λ n. n * m) is in
        omega arith

-- where the denominators of two of p, span and q divide m, so does that of the third
pub span_divides : (m : ℕ) (p q span : Frac) → IsLength p q span → p.den ∣ m → q.den ∣ m → span.den ∣ m
span_divides m p q span is of_p of_q =
    divides_second span.num span.den m span.lowest
    (subst (λ n. span.den ∣ n) rest (dvd-sub span.den (dvd-mul_left span.den (parts m q)) (dvd-mul_left span.den (parts m p))))
  where
    rest : parts m q * span.den - parts m p * span.den ≡ span.num * m
    rest = let differ = parts_differ m p q span is of_p of_q in omega arith

pub point_divides : (m : ℕ) (p q span : Frac) → IsLength p q span → p.den ∣ m → span.den ∣ m → q.den ∣ m
point_divides m p q span is of_p of_span =
    divides_second q.num q.den m q.lowest (subst (λ n. q.den ∣ n) whole (dvd-mul_left q.den (parts m p + parts m span)))
  where
    scaled : (m a c pn pd qn qd sn sd : ℕ) → a * pd ≡ pn * m → c * sd ≡ sn * m →
        (pn * sd + sn * pd) * qd ≡ qn * (pd * sd) →
        pd * sd * ((a + c) * qd) ≡ pd * sd * (qn * m)
    scaled m a c pn pd qn qd sn sd of_p of_span is =
        let left : a * pd * (sd * qd) ≡ pn * m * (sd * qd) = ap (λ n. n * (sd * qd)) of_p in
        let right : c * sd * (pd * qd) ≡ sn * m * (pd * qd) = ap (λ n. n * (pd * qd)) of_span in
        let all : (pn * sd + sn * pd) * qd * m ≡ qn * (pd * sd) * m = ap (λ n. n * m) is in
        omega arith

    whole : (parts m p + parts m span) * q.den ≡ q.num * m
    whole =
        eq_of_mul-eq-mul_left (p.den * span.den) (mul-pos p.positive span.positive)
        ((parts m p + parts m span) * q.den) (q.num * m)
        (scaled m (parts m p) (parts m span) p.num p.den q.num q.den span.num span.den
        (parts_times m p of_p) (parts_times m span of_span) is)

-- between two points that rise there is a length
pub length_between : (p q : Frac) → IsBelow p q → (span : Frac) × IsLength p q span
length_between p q below =
    let top = q.num * p.den - p.num * q.den in
    let base = p.den * q.den in
    let gcd = gcd_of top base in
    let positive : 0 < base = mul-pos p.positive q.positive in
    let value = same_value top base gcd.0 gcd.1 in (
      record {
        num = top / gcd.0;
        den = base / gcd.0;
        positive = quotient_positive base gcd.0 top positive gcd.1;
        lowest = quotients_coprime top base gcd.0 positive gcd.1;
      },
      sum p.num p.den q.num q.den (top / gcd.0) (base / gcd.0) (omega arith) value,
    )
  where
    sum : (pn pd qn qd sn sd : ℕ) → pn * qd ≤ qn * pd → sn * (pd * qd) ≡ (qn * pd - pn * qd) * sd →
        (pn * sd + sn * pd) * qd ≡ qn * (pd * sd)
    sum pn pd qn qd sn sd below value =
        let top = qn * pd - pn * qd in
        let split : (pn * qd + top) * sd ≡ qn * pd * sd = ap (λ n. n * sd) (let e : pn * qd + top ≡ qn * pd = omega arith in e) in
        omega arith

-- and it is above zero
pub length_positive : (p q span : Frac) → IsBelow p q → IsLength p q span → 0 < span.num
length_positive p q span below is =
    elim (dec_lt 0 span.num) [
      | yes above ↦ above
      | no none ↦
          let zero_span : span.num ≡ 0 = omega arith in
          let nothing : span.num * p.den * q.den ≡ 0 * p.den * q.den = ap (λ n. n * p.den * q.den) zero_span in
          let more : span.den * (p.num * q.den) < span.den * (q.num * p.den) = mul-lt-mul_of_pos_left below span.positive in
          absurd (omega arith)
    ]

-- so more parts lie below the upper point
pub parts_rise : (m : ℕ) (p q : Frac) → 0 < m → IsBelow p q → p.den ∣ m → q.den ∣ m → parts m p < parts m q
parts_rise m p q positive below of_p of_q =
    let between = length_between p q below in
    let some : 0 < between.0.num * m = mul-pos (length_positive p q between.0 below between.1) positive in
    let differ = parts_differ m p q between.0 between.1 of_p of_q in
    elim (dec_lt (parts m p) (parts m q)) [
      | yes above ↦ above
      | no under ↦
          let most : parts m q * between.0.den ≤ parts m p * between.0.den =
          mul-le-mul_right between.0.den (let le : parts m q ≤ parts m p = omega arith in le) in
          absurd (omega arith)
    ]

-- two points have one length
pub length_unique : (p q a b : Frac) → IsLength p q a → IsLength p q b → HasNumbers a b.num b.den
length_unique p q a b one other = record {
  num_is = same_numerator a.num a.den b.num b.den a.positive b.positive a.lowest b.lowest same;
  den_is = same_denominator a.num a.den b.num b.den a.positive b.positive a.lowest b.lowest same;
}
  where
    scaled : (pn pd qn qd an ad bn bd : ℕ) → (pn * ad + an * pd) * qd ≡ qn * (pd * ad) →
        (pn * bd + bn * pd) * qd ≡ qn * (pd * bd) → pd * qd * (an * bd) ≡ pd * qd * (bn * ad)
    scaled pn pd qn qd an ad bn bd one other =
        let left : (pn * ad + an * pd) * qd * bd ≡ qn * (pd * ad) * bd = ap (λ n. n * bd) one in
        let right : (pn * bd + bn * pd) * qd * ad ≡ qn * (pd * bd) * ad = ap (λ n. n * ad) other in
        omega arith

    same : a.num * b.den ≡ b.num * a.den
    same =
        eq_of_mul-eq-mul_left (p.den * q.den) (mul-pos p.positive q.positive) (a.num * b.den) (b.num * a.den)
        (scaled p.num p.den q.num q.den a.num a.den b.num b.den one other)
