-- The least common multiple, from the greatest common divisor.
use Rattle.std.proofs.Common.{◌≡◌, ◌<◌, ◌≤◌, ◌*◌, ◌/◌, ◌%◌, ◌∙◌, ℕ, zero, suc, ◌^◌, arith, ap, sym, subst}
use Rattle.std.specs.Int.{◌∣◌, IsGcd}
use Rattle.std.specs.Prelude.{Option, Some, None, IfSome, IfNone}
use Rattle.std.specs.Option.{SomeIff}
use Rattle.std.proofs.Math.Nat.{mul-div_cancel', dvd-mul_left, dvd-mul_right, dvd_of_mul-dvd-mul_left, mul-dvd-mul_left, mul-dvd-mul_right, one-dvd, dvd-zero, eq-zero_of_zero-dvd, mul_comm, mul-one}
use Rattle.std.proofs.Math.Decide.{dec_lt}
use Rattle.std.proofs.lemmas.Nat.Gcd.{dvd_trans, IsGcd-from_mod, IsGcd-from_zero}
use Rattle.ld_num.specs.Multiple.{IsLcm}

-- two numbers have a greatest common divisor
gcd_within : (fuel a b : ℕ) → b < fuel → (g : ℕ) × IsGcd a b g
gcd_within zero a b below = absurd (omega arith)
gcd_within (suc fuel) a b below =
    elim (dec_lt 0 b) [
      | yes above ↦
          let rest = gcd_within fuel b (a % b) (omega arith) in
          (rest.0, IsGcd-from_mod a b rest.0 rest.1)
      | no none ↦ (a, IsGcd-from_zero a b (omega arith))
    ]

gcd_of : (a b : ℕ) → (g : ℕ) × IsGcd a b g
gcd_of a b = gcd_within (suc b) a b (omega arith)

-- a divisor of two numbers above 0 is above 0
pub divisor_positive : (a d : ℕ) → 0 < a → d ∣ a → 0 < d
divisor_positive a d positive divides =
    elim (dec_lt 0 d) [
      | yes above ↦ above
      | no none ↦
          let divided : 0 ∣ a = subst (λ n. n ∣ a) (let e : d ≡ 0 = omega arith in e) divides in
          let nothing : a ≡ 0 = eq-zero_of_zero-dvd divided in
          absurd (omega arith)
    ]

-- what divides two multiples of one number divides that number times the divisor of the factors
pub divides_times : (m a b g n : ℕ) → 0 < m → IsGcd a b g → n ∣ m * a → n ∣ m * b → n ∣ m * g
divides_times m a b g n positive gcd of_a of_b =
    let all = gcd_of (m * a) (m * b) in
    let whole : m ∣ all.0 = all.1.2 m (dvd-mul_right m a) (dvd-mul_right m b) in
    let factor : m * (all.0 / m) ≡ all.0 = mul-div_cancel' m whole in
    let left : all.0 / m ∣ a = dvd_of_mul-dvd-mul_left (all.0 / m) positive (rw factor all.1.0) in
    let right : all.0 / m ∣ b = dvd_of_mul-dvd-mul_left (all.0 / m) positive (rw factor all.1.1) in
    let inside : m * (all.0 / m) ∣ m * g = mul-dvd-mul_left (all.0 / m) m (gcd.2 (all.0 / m) left right) in
    dvd_trans n (all.1.2 n of_a of_b) (rw factor at inside)

-- numbers divided by their greatest common divisor have none but 1
pub coprime_quotients : (a b g : ℕ) → 0 < g → IsGcd a b g → IsGcd (a / g) (b / g) 1
coprime_quotients a b g positive gcd =
    let left : g * (a / g) ≡ a = mul-div_cancel' g gcd.0 in
    let right : g * (b / g) ≡ b = mul-div_cancel' g gcd.1 in (
      one-dvd (a / g),
      one-dvd (b / g),
      λ d of_a of_b.
          let in_a : g * d ∣ a = rw left at (mul-dvd-mul_left d g of_a) in
          let in_b : g * d ∣ b = rw right at (mul-dvd-mul_left d g of_b) in
          let in_g : g * d ∣ g * 1 = rw mul-one (gcd.2 (g * d) in_a in_b) in
          dvd_of_mul-dvd-mul_left d positive in_g,
    )

-- the one number's quotient by the greatest common divisor, times the other number
pub lcm_of : (a b g : ℕ) → 0 < g → IsGcd a b g → IsLcm a b (a / g * b)
lcm_of a b g positive gcd = record {
  of_a = rw same (dvd-mul_right a (b / g));
  of_b = dvd-mul_left b (a / g);
  least = λ other of_a of_b. elim (dec_lt 0 other) [
    | yes above ↦
        let left : a / g * b ∣ other * (a / g) = rw (mul_comm other (a / g)) (mul-dvd-mul_left b (a / g) of_b) in
        let right : a / g * b ∣ other * (b / g) = rw same (mul-dvd-mul_right a of_a (b / g)) in
        let all : a / g * b ∣ other * 1 = divides_times other (a / g) (b / g) 1 (a / g * b) above (coprime_quotients a b g positive gcd) left right in
        rw mul-one at all
    | no none ↦ subst (λ n. a / g * b ∣ n) (let e : 0 ≡ other = omega arith in e) (dvd-zero (a / g * b))
  ];
}
  where
    same : a / g * b ≡ a * (b / g)
    same =
        ap (λ n. a / g * n) (sym (mul-div_cancel' g gcd.1))
        ∙ (let e : a / g * (g * (b / g)) ≡ g * (a / g) * (b / g) = omega arith in e)
        ∙ ap (λ n. n * (b / g)) (mul-div_cancel' g gcd.0)

-- what a checked product answers of a least common multiple
pub found : (a b : ℕ) {n : ℕ} → IsLcm a b n → (result : Option ℕ) → SomeIff result (n < 2 ^ 64) n → IfSome result (IsLcm a b)
found a b {n} least None small = tt
found a b {n} least (Some x) small = subst (IsLcm a b) (sym small.1) least

pub past : (a b : ℕ) {n : ℕ} → IsLcm a b n → (result : Option ℕ) → SomeIff result (n < 2 ^ 64) n →
    IfNone result ((multiple : ℕ) × IsLcm a b multiple × (2 ^ 64 ≤ multiple))
past a b {n} least None small = let large : 2 ^ 64 ≤ n = omega (arith, small) in (n, least, large)
past a b {n} least (Some x) small = tt
