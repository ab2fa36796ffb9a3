-- When stages reach what is wanted: later where more is wanted, and before their end only what they have.
use Rattle.std.proofs.Common.{◌≡◌, ◌<◌, ◌≤◌, ◌+◌, ◌-◌, ◌*◌, ◌&&◌, ℕ, Bool, true, false, List, [], ◌∷◌, inl, inr, arith, subst}
use Rattle.std.specs.Prelude.{Option, None, Some, nat_le, unwrap_or}
use Rattle.std.proofs.Math.Nat.{le_of_mul-le-mul_left, mul-le-mul_left}
use Rattle.std.proofs.Math.Decide.{dec_lt}
use Rattle.std.proofs.lemmas.Bool.{and_from, and_left, and_right, both_ways, cases_Bool, leb-true, le-leb, lt-leb, lt-ltb, ltb-true}
use Rattle.std.proofs.lemmas.List.Sums.{sum_by-cons}
use Rattle.ld_base.specs.declared.stage.Stage.{Stage}
use Rattle.ld_arrival.specs.Ramp.{first_reached, is_reached, ramp_length, ramp_sum, reached_at, stage_sum}
use Rattle.ld_arrival.proofs.LeastLemmas.{IsLeast, least_to, one_least}

-- both tests of a passing pair pass
both_pass : (x y : Bool) → (x && y) ≡ true → (x ≡ true) × (y ≡ true)
both_pass x y both = (
  elim (cases_Bool x) [ inl passes ↦ passes | inr fails ↦ absurd (both_ways (x && y) (and_left x y fails) both) ],
  elim (cases_Bool y) [ inl passes ↦ passes | inr fails ↦ absurd (both_ways (x && y) (and_right x y fails) both) ],
)

-- a stage of some length has reached `wanted` at t
pub record HasReached (rate done wanted : ℕ) (stage : Stage) (t : ℕ) : Type 0 where
  pub lasts : 0 < stage.length
  pub enough : stage.length * wanted + rate * t * t ≤ 2 * stage.length * rate * t + stage.target * t * t + stage.length * done

pub has_reached : (rate done wanted : ℕ) (stage : Stage) (t : ℕ) → is_reached rate done wanted stage t ≡ true → HasReached rate done wanted stage t
has_reached rate done wanted stage t is =
    let both = both_pass _ _ is in
    record { lasts = ltb-true _ _ both.0; enough = leb-true _ _ both.1 }

pub is_reached_where : (rate done wanted : ℕ) (stage : Stage) (t : ℕ) → HasReached rate done wanted stage t → is_reached rate done wanted stage t ≡ true
is_reached_where rate done wanted stage t has = and_from _ _ (lt-ltb _ _ has.lasts) (le-leb _ _ has.enough)

-- what has reached more has reached less
reached_less : (rate done less more : ℕ) → less ≤ more → (stage : Stage) (t : ℕ) →
    is_reached rate done more stage t ≡ true → is_reached rate done less stage t ≡ true
reached_less rate done less more within stage t is =
    let has = has_reached rate done more stage t is in
    let enough = has.enough in
    let smaller = mul-le-mul_left stage.length within in
    is_reached_where rate done less stage t (record { lasts = has.lasts; enough = omega (arith, enough, smaller) })

-- less of a first test's least, or n and more, is at most that of a stricter one
sooner : (p q : ℕ → Bool) → ((t : ℕ) → q t ≡ true → p t ≡ true) → (n a b : ℕ) → a ≤ b → (x y : Option ℕ) →
    IsLeast p 0 (n + 1) x → IsLeast q 0 (n + 1) y → unwrap_or x (n + a) ≤ unwrap_or y (n + b)
sooner p q stricter n a b within None None first second = omega arith
sooner p q stricter n a b within None (Some t) first second = absurd (both_ways (p t) (first t second.0 second.1) (stricter t second.2))
sooner p q stricter n a b within (Some s) None first second = omega (arith, first.1)
sooner p q stricter n a b within (Some s) (Some t) first second =
    elim (dec_lt t s) [
      | yes below ↦ absurd (both_ways (p t) (first.3 t second.0 below) (stricter t second.2))
      | no above ↦ omega arith
    ]

-- more isn't reached before less
pub reached_rises : (rate done less more : ℕ) → less ≤ more → (stages : List Stage) → reached_at rate done less stages ≤ reached_at rate done more stages
reached_rises rate done less more within [] = omega arith
reached_rises rate done less more within (stage ∷ later) =
    sooner (is_reached rate done less stage) (is_reached rate done more stage) (reached_less rate done less more within stage)
    stage.length _ _ (reached_rises stage.target (done + stage_sum rate stage) less more within later)
    (first_reached rate done less stage) (first_reached rate done more stage)
    (least_to (is_reached rate done less stage) stage.length) (least_to (is_reached rate done more stage) stage.length)

-- with s + d + e as the length: s + d is at least as far in a straight line as s
further : (rate target s d e : ℕ) →
    2 * (s + d + e) * rate * s + target * s * s + rate * (s + d) * (s + d)
    ≤ 2 * (s + d + e) * rate * (s + d) + target * (s + d) * (s + d) + rate * s * s
further rate target s d e = omega arith

-- what a stage has reached at s it has reached at t
pub reached_on : (rate done wanted : ℕ) (stage : Stage) (s t : ℕ) → s ≤ t → t ≤ stage.length →
    is_reached rate done wanted stage s ≡ true → is_reached rate done wanted stage t ≡ true
reached_on rate done wanted stage s t later within is =
    let has = has_reached rate done wanted stage s is in
    let enough = has.enough in
    let line = further rate stage.target s (t - s) (stage.length - t) in
    let at : s + (t - s) ≡ t = omega arith in
    let whole : t + (stage.length - t) ≡ stage.length = omega arith in
    let moved = subst (λ x. 2 * (x + (stage.length - t)) * rate * s + stage.target * s * s + rate * x * x ≤ 2 * (x + (stage.length - t)) * rate * x + stage.target * x * x + rate * s * s) at line in
    let on = subst (λ x. 2 * x * rate * s + stage.target * s * s + rate * t * t ≤ 2 * x * rate * t + stage.target * t * t + rate * s * s) whole moved in
    is_reached_where rate done wanted stage t (record { lasts = has.lasts; enough = omega (arith, enough, on) })

-- a stage reaches at most what it has
reached_most : (rate done wanted : ℕ) (stage : Stage) (t : ℕ) → t ≤ stage.length → is_reached rate done wanted stage t ≡ true → wanted ≤ done + stage_sum rate stage
reached_most rate done wanted stage t within is =
    let has = has_reached rate done wanted stage stage.length (reached_on rate done wanted stage t stage.length within (omega arith) is) in
    let enough = has.enough in
    le_of_mul-le-mul_left {k = stage.length} (omega (arith, enough)) has.lasts

-- a stage of some length reaches in all what it has
pub reached_at_all : (rate done wanted : ℕ) (stage : Stage) → 0 < stage.length →
    nat_le wanted (done + stage_sum rate stage) ≡ is_reached rate done wanted stage stage.length
reached_at_all rate done wanted stage lasts =
    elim (cases_Bool (is_reached rate done wanted stage stage.length)) [
      | inl passes ↦
          let enough = le-leb wanted (done + stage_sum rate stage) (reached_most rate done wanted stage stage.length (omega arith) passes) in
          cc (enough, passes)
      | inr fails ↦
          elim (dec_lt (done + stage_sum rate stage) wanted) [
            | yes less ↦
                let too_much = lt-leb wanted (done + stage_sum rate stage) less in
                cc (too_much, fails)
            | no above ↦
                let within : wanted ≤ done + stage_sum rate stage = omega (arith, above) in
                let times = mul-le-mul_left stage.length within in
                let passes = is_reached_where rate done wanted stage stage.length (record { lasts = lasts; enough = omega (arith, times) }) in
                absurd (both_ways (is_reached rate done wanted stage stage.length) fails passes)
          ]
    ]

-- a stage and later ones reach before their end only what they have, where the later ones do
within_first : (rate done wanted most : ℕ) (stage : Stage) (later ends : ℕ) → (later < ends → wanted ≤ done + stage_sum rate stage + most) →
    (x : Option ℕ) → IsLeast (is_reached rate done wanted stage) 0 (stage.length + 1) x →
    unwrap_or x (stage.length + later) < stage.length + ends → wanted ≤ done + (stage_sum rate stage + most)
within_first rate done wanted most stage later ends rest (Some t) at early =
    let reached = reached_most rate done wanted stage t (omega (arith, at.1)) at.2 in
    omega (arith, reached)
within_first rate done wanted most stage later ends rest None none early =
    let reached = rest (omega (arith, early)) in
    omega (arith, reached)

-- stages reach before their end only what they have
pub reached_within : (rate done wanted : ℕ) (stages : List Stage) → reached_at rate done wanted stages < ramp_length stages → wanted ≤ done + ramp_sum rate stages
reached_within rate done wanted [] before = absurd (omega arith)
reached_within rate done wanted (stage ∷ later) before =
    within_first rate done wanted (ramp_sum stage.target later) stage
    (reached_at stage.target (done + stage_sum rate stage) wanted later) (ramp_length later)
    (reached_within stage.target (done + stage_sum rate stage) wanted later)
    (first_reached rate done wanted stage) (least_to (is_reached rate done wanted stage) stage.length)
    (subst (λ n. reached_at rate done wanted (stage ∷ later) < n) (sum_by-cons (λ (s : Stage). s.length) stage later) before)

-- where a stage hasn't reached it, it hasn't before
pub none_before : (rate done wanted : ℕ) (stage : Stage) (t : ℕ) → t ≤ stage.length → is_reached rate done wanted stage t ≡ false →
    (s : ℕ) → s < t + 1 → is_reached rate done wanted stage s ≡ false
none_before rate done wanted stage t within fails s before =
    elim (cases_Bool (is_reached rate done wanted stage s)) [
      | inl passes ↦ absurd (both_ways _ fails (reached_on rate done wanted stage s t (omega arith) within passes))
      | inr earlier ↦ earlier
    ]

-- what a stage hasn't reached at its end it never reaches
pub none_reached : (rate done wanted : ℕ) (stage : Stage) → is_reached rate done wanted stage stage.length ≡ false →
    None ≡ first_reached rate done wanted stage
none_reached rate done wanted stage fails =
    one_least (is_reached rate done wanted stage) 0 (stage.length + 1) None (first_reached rate done wanted stage)
    (λ t above below. none_before rate done wanted stage stage.length (omega arith) fails t below)
    (least_to (is_reached rate done wanted stage) stage.length)

-- it is first reached where it is reached, and nowhere before
pub first_is : (rate done wanted : ℕ) (stage : Stage) (t : ℕ) → t ≤ stage.length → is_reached rate done wanted stage t ≡ true →
    ((s : ℕ) → s < t → is_reached rate done wanted stage s ≡ false) → Some t ≡ first_reached rate done wanted stage
first_is rate done wanted stage t within passes before =
    one_least (is_reached rate done wanted stage) 0 (stage.length + 1) (Some t) (first_reached rate done wanted stage)
    (omega arith, omega arith, passes, λ s above below. before s below)
    (least_to (is_reached rate done wanted stage) stage.length)
