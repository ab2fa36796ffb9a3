-- A fraction in lowest terms.
use Rattle.std.proofs.Common.{◌≡◌, ◌<◌, ◌≤◌, ◌*◌, ◌/◌, ◌∙◌, ℕ, arith, ap, sym, subst}
use Rattle.std.specs.Int.{◌∣◌, IsGcd}
use Rattle.std.proofs.Math.Nat.{mul-div_cancel', mul-zero, mul-one, one-dvd, dvd-mul_left, dvd_antisymm, eq-one_of_dvd-one, eq_of_mul-eq-mul_left}
use Rattle.std.proofs.Math.Decide.{dec_lt}
use Rattle.std.proofs.lemmas.Nat.Gcd.{dvd_refl}
use Rattle.std.specs.Prelude.{◌↔◌}
use Rattle.std.specs.Ordering.{nat_cmp}
use Rattle.std.specs.declared.cmp.Ordering.{Ordering}
use Rattle.std.specs.declared.cmp.Ordering.TheVariants.{Equal}
use Rattle.std.proofs.lemmas.Bool.Decides.{nat_tests}
use Rattle.ld_num.specs.Terms.{AreCoprime}
use Rattle.ld_num.specs.Fraction.{value_cmp, HasNumbers}
use Rattle.ld_num.specs.declared.fraction.Frac.{Frac}
use Rattle.ld_num.proofs.LcmLemmas.{coprime_quotients, divides_times, divisor_positive}

pub quotient_positive : (b g : ℕ) (a : ℕ) → 0 < b → IsGcd a b g → 1 ≤ b / g
quotient_positive b g a positive gcd =
    elim (dec_lt 0 (b / g)) [
      | yes above ↦ above
      | no none ↦
          let whole : g * (b / g) ≡ b = mul-div_cancel' g gcd.1 in
          let nothing : g * (b / g) ≡ 0 = ap (λ n. g * n) (let e : b / g ≡ 0 = omega arith in e) ∙ mul-zero g in
          absurd (omega arith)
    ]

pub quotients_coprime : (a b g : ℕ) → 0 < b → IsGcd a b g → AreCoprime (a / g) (b / g)
quotients_coprime a b g positive gcd =
    λ d of_a of_b. eq-one_of_dvd-one ((coprime_quotients a b g (divisor_positive b g positive gcd.1) gcd).2 d of_a of_b)

pub same_value : (a b g : ℕ) → IsGcd a b g → a / g * b ≡ a * (b / g)
same_value a b g gcd =
    ap (λ n. a / g * n) (sym (mul-div_cancel' g gcd.1))
    ∙ (let e : a / g * (g * (b / g)) ≡ g * (a / g) * (b / g) = omega arith in e)
    ∙ ap (λ n. n * (b / g)) (mul-div_cancel' g gcd.0)

coprime_gcd : (a b : ℕ) → AreCoprime a b → IsGcd a b 1
coprime_gcd a b coprime =
    (one-dvd a, one-dvd b, λ d of_a of_b. subst (λ n. n ∣ 1) (sym (coprime d of_a of_b)) (dvd_refl 1))

-- the denominator of a value in lowest terms divides each other denominator of it
denominator_divides : (a b c d : ℕ) → 0 < d → AreCoprime a b → a * d ≡ c * b → b ∣ d
denominator_divides a b c d positive coprime same =
    let of_a : b ∣ d * a = subst (λ n. b ∣ n) (let e : c * b ≡ d * a = omega arith in e) (dvd-mul_left b c) in
    let of_b : b ∣ d * b = dvd-mul_left b d in
    let all : b ∣ d * 1 = divides_times d a b 1 b positive (coprime_gcd a b coprime) of_a of_b in
    rw mul-one at all

pub same_denominator : (a b c d : ℕ) → 0 < b → 0 < d → AreCoprime a b → AreCoprime c d → a * d ≡ c * b → b ≡ d
same_denominator a b c d b_positive d_positive left right same =
    dvd_antisymm (denominator_divides a b c d d_positive left same) (denominator_divides c d a b b_positive right (sym same))

pub same_numerator : (a b c d : ℕ) → 0 < b → 0 < d → AreCoprime a b → AreCoprime c d → a * d ≡ c * b → a ≡ c
same_numerator a b c d b_positive d_positive left right same =
    let one : b ≡ d = same_denominator a b c d b_positive d_positive left right same in
    let scaled : b * a ≡ b * c = (let e : b * a ≡ d * a = ap (λ n. n * a) one in omega arith) in
    eq_of_mul-eq-mul_left b b_positive a c scaled

same_from_order : (m n : ℕ) → nat_cmp m n ≡ Equal → m ≡ n
same_from_order m n equal = grind (arith, nat_tests)

order_of_same : (m n : ℕ) → m ≡ n → nat_cmp m n ≡ Equal
order_of_same m n same = grind (arith, nat_tests)

-- fractions have the same value exactly where they are the same
pub equal_exactly : (p q : Frac) (result : Ordering) → result ≡ value_cmp p q →
    (result ≡ Equal) ↔ HasNumbers p q.num q.den
equal_exactly p q result is = (
  λ equal.
      let same = same_from_order (p.num * q.den) (q.num * p.den) (sym is ∙ equal) in
      record {
        num_is = same_numerator p.num p.den q.num q.den p.positive q.positive p.lowest q.lowest same;
        den_is = same_denominator p.num p.den q.num q.den p.positive q.positive p.lowest q.lowest same;
      },
  λ has. is ∙ order_of_same (p.num * q.den) (q.num * p.den) (rw (has.num_is, has.den_is)),
)
