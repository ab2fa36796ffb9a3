-- The planned arrivals are those below their number.
use Rattle.std.proofs.Common.{◌≡◌, ◌<◌, ◌≤◌, ◌+◌, ◌*◌, ◌/◌, ◌↔◌, ◌∙◌, ℕ, Bool, true, false, zero, suc, [], ◌∷◌, List, cond, inl, inr, length, nat_lt, arith, refl, ap, sym, subst}
use Rattle.std.specs.List.{All, filter, range_with_len}
use Rattle.std.specs.Prelude.{slice_index_or}
use Rattle.std.specs.Int.{div_ceil}
use Rattle.std.proofs.Math.Nat.{div-lt_iff_lt-mul, div-mul-le_self, div-zero, le-div_iff_mul-le, mul-le-mul_left, mul-le-mul_right, add-mul}
use Rattle.std.proofs.Math.Decide.{dec_lt}
use Rattle.std.proofs.lemmas.Bool.{both_ways, lt-ltb, le-ltb, ltb-true}
use Rattle.std.proofs.lemmas.Grind.{div_ceil_times}
use Rattle.std.proofs.lemmas.List.Elements.{All-head, All-tail, Contains-get_or}
use Rattle.std.proofs.lemmas.List.Sums.{sum_by-cons}
use Rattle.std.proofs.lemmas.List.FromFn.{length-range_with_len}
use Rattle.ld_base.specs.declared.stage.Stage.{Stage}
use Rattle.ld_arrival.specs.Ramp.{ramp_length, ramp_sum}
use Rattle.ld_arrival.specs.Timetable.{Timetable, Constant, Ramping, IsPlanned, moment_of, end_of, planned, planned_count, planned_below}
use Rattle.ld_arrival.specs.Limits.{IsWithinLimits, greatest_duration, greatest_rate, greatest_unit}
use Rattle.ld_arrival.specs.RampStage.{AreSmallStages, most_wanted}
use Rattle.ld_arrival.proofs.LeastLemmas.{falls_at}
use Rattle.ld_arrival.proofs.RampLemmas.{reached_rises, reached_within}

-- a test that no number from a on passes keeps none
filter_none : (p : ℕ → Bool) (a m : ℕ) → ((k : ℕ) → a ≤ k → p k ≡ false) → filter p (range_with_len a m) ≡ []
filter_none p a zero rest = refl
filter_none p a (suc m) rest =
    ap (λ b. cond b (a ∷ filter p (range_with_len (a + 1) m)) (filter p (range_with_len (a + 1) m))) (rest a (omega arith))
    ∙ filter_none p (a + 1) m (λ k above. rest k (omega arith))

-- of m numbers from a on, a test that the first n pass, and no later one, keeps these n
filter_front : (p : ℕ → Bool) (a n m : ℕ) → n ≤ m → ((k : ℕ) → k < a + n → p k ≡ true) → ((k : ℕ) → a + n ≤ k → p k ≡ false) →
    filter p (range_with_len a m) ≡ range_with_len a n
filter_front p a zero m within front rest = filter_none p a m (λ k above. rest k (omega arith))
filter_front p a (suc n) zero within front rest = absurd (omega arith)
filter_front p a (suc n) (suc m) within front rest =
    ap (λ b. cond b (a ∷ filter p (range_with_len (a + 1) m)) (filter p (range_with_len (a + 1) m))) (front a (omega arith))
    ∙ ap (λ ks. a ∷ ks) (filter_front p (a + 1) n m (omega arith) (λ k below. front k (omega arith)) (λ k above. rest k (omega arith)))

-- arrival k is planned where k is below what the duration has of units, times the rate, rounded up
planned_at : (rate unit duration : ℕ) → 0 < rate → 0 < unit → (k : ℕ) →
    (k * unit / rate < duration) ↔ (k < div_ceil (duration * rate) unit)
planned_at rate unit duration some_rate some_unit k =
    let before = div-lt_iff_lt-mul {k = rate} {x = k * unit} {y = duration} some_rate in
    let bounds = div_ceil_times (duration * rate) unit some_unit in (
      λ is_before.
          let part : k * unit < duration * rate = before.0 is_before in
          elim (dec_lt k (div_ceil (duration * rate) unit)) [
            | yes below ↦ below
            | no above ↦ let at_least = mul-le-mul_right {m = div_ceil (duration * rate) unit} {n = k} unit (omega arith) in absurd (omega (arith, bounds))
          ],
      λ below. before.1
          (let more = mul-le-mul_right {m = k + 1} {n = div_ceil (duration * rate) unit} unit (omega arith) in
          let split = add-mul k 1 unit in
          omega (arith, bounds)),
    )

-- where the planned arrivals are those below n, they are these n
planned_is : (timetable : Timetable) (n : ℕ) → ((k : ℕ) → IsPlanned timetable k ↔ (k < n)) →
    n ≤ planned_below timetable → planned timetable ≡ range_with_len 0 n
unfolding planned
planned_is timetable n below within =
    filter_front (λ k. nat_lt (moment_of timetable k) (end_of timetable)) 0 n (planned_below timetable) within
    (λ k front. lt-ltb _ _ ((below k).1 (omega arith)))
    (λ k rest. le-ltb _ _ (elim (dec_lt (moment_of timetable k) (end_of timetable)) [
      | yes before ↦ let front = (below k).0 before in absurd (omega arith)
      | no after ↦ omega arith
    ]))

-- n arrivals of the timetable are planned, those below n
pub record IsCount (timetable : Timetable) (n : ℕ) : Type 0 where
  pub those : (k : ℕ) → IsPlanned timetable k ↔ (k < n)
  pub all : planned timetable ≡ range_with_len 0 n
  pub count : n ≡ planned_count timetable

pub count_of_constant : (rate unit duration : ℕ) → IsWithinLimits (Constant rate unit duration) →
    IsCount (Constant rate unit duration) (div_ceil (duration * rate) unit)
count_of_constant rate unit duration limits =
    let some_rate : 0 < rate = elim (dec_lt 0 rate) [
      | yes some ↦ some
      | no none ↦ absurd (limits.rate (inl (omega arith)))
    ] in
    let some_unit : 0 < unit = elim (dec_lt 0 unit) [
      | yes some ↦ some
      | no none ↦ absurd (limits.duration (inl (inl (omega arith))))
    ] in
    let those = planned_at rate unit duration some_rate some_unit in
    let whole = planned_is (Constant rate unit duration) (div_ceil (duration * rate) unit) those (omega arith) in
    record {
      those = those;
      all = whole;
      count = sym (ap length whole ∙ length-range_with_len 0 (div_ceil (duration * rate) unit));
    }

-- quotients of one divisor don't fall
div_rises : (a b d : ℕ) → a ≤ b → a / d ≤ b / d
div_rises a b zero within = let left = div-zero a in omega arith
div_rises a b (suc d) within =
    let part = div-mul-le_self a (suc d) in
    (le-div_iff_mul-le {k = suc d} {x = a / suc d} {y = b} (omega arith)).1 (omega arith)

pub moments_rise : (timetable : Timetable) (j k : ℕ) → j ≤ k → moment_of timetable j ≤ moment_of timetable k
moments_rise (Constant rate unit duration) j k within = div_rises (j * unit) (k * unit) rate (mul-le-mul_right unit within)
moments_rise (Ramping start_rate unit stages) j k within =
    let less = mul-le-mul_left (2 * unit) within in
    reached_rises start_rate 0 (2 * unit * (j + 1)) (2 * unit * (k + 1)) (omega (arith, less)) stages

-- an arrival that is planned is below what the stages have of arrivals
planned_within : (start_rate unit : ℕ) (stages : List Stage) → 0 < unit → (k : ℕ) → IsPlanned (Ramping start_rate unit stages) k →
    k < planned_below (Ramping start_rate unit stages)
planned_within start_rate unit stages some k before =
    let within = reached_within start_rate 0 (2 * unit * (k + 1)) stages before in
    let reached = (le-div_iff_mul-le {k = 2 * unit} {x = k + 1} {y = ramp_sum start_rate stages} (omega arith)).1 (omega (arith, within)) in
    omega (arith, reached)

count_of_ramp : (start_rate unit : ℕ) (stages : List Stage) → IsWithinLimits (Ramping start_rate unit stages) →
    IsCount (Ramping start_rate unit stages) (planned_count (Ramping start_rate unit stages))
count_of_ramp start_rate unit stages limits =
    let timetable = Ramping start_rate unit stages in
    let some_unit : 0 < unit = elim (dec_lt 0 unit) [
      | yes some ↦ some
      | no none ↦ absurd (limits.duration (inl (inl (omega arith))))
    ] in
    let before = λ (k : ℕ). nat_lt (moment_of timetable k) (end_of timetable) in
    let at = falls_at before (planned_below timetable)
    (λ j k within passes.
    let rises = moments_rise timetable j k within in
    let early = ltb-true _ _ passes in
    lt-ltb _ _ (omega (arith, rises, early))) in
    let those : (k : ℕ) → IsPlanned timetable k ↔ (k < at.number) = λ k. (
      λ planned. elim (dec_lt k at.number) [
        | yes below ↦ below
        | no above ↦ absurd (both_ways _ (at.behind k (omega arith) (planned_within start_rate unit stages some_unit k planned)) (lt-ltb _ _ planned))
      ],
      λ below. ltb-true _ _ (at.front k below),
    ) in
    let whole = planned_is timetable at.number those at.within in
    let count : at.number ≡ planned_count timetable = sym (ap length whole ∙ length-range_with_len 0 at.number) in
    subst (IsCount timetable) count (record { those = those; all = whole; count = count })

-- a timetable within the limits has a count
pub counted : (timetable : Timetable) → IsWithinLimits timetable → IsCount timetable (planned_count timetable)
counted (Constant rate unit duration) limits =
    let is = count_of_constant rate unit duration limits in
    subst (IsCount (Constant rate unit duration)) is.count is
counted (Ramping start_rate unit stages) limits = count_of_ramp start_rate unit stages limits

pub ends_within : (timetable : Timetable) → IsWithinLimits timetable → end_of timetable ≤ greatest_duration
ends_within (Constant rate unit duration) limits =
    elim (dec_lt greatest_duration duration) [
      | yes long ↦ absurd (limits.duration (inr (inr long)))
      | no short ↦ omega arith
    ]
ends_within (Ramping start_rate unit stages) limits =
    elim (dec_lt greatest_duration (ramp_length stages)) [
      | yes long ↦ absurd (limits.duration (inr long))
      | no short ↦ omega arith
    ]

-- ---- what the searches of a ramp need

-- a ramp has less than what is wanted at most
ramp_has : (rate : ℕ) (stages : List Stage) → rate ≤ greatest_rate → All (λ stage. stage.target ≤ greatest_rate) stages →
    ramp_sum rate stages ≤ 2 * greatest_rate * ramp_length stages
ramp_has rate [] slow targets = omega arith
ramp_has rate (stage ∷ later) slow targets =
    let target = All-head (λ (s : Stage). s.target ≤ greatest_rate) stage later targets in
    let rest = ramp_has stage.target later target (All-tail (λ (s : Stage). s.target ≤ greatest_rate) stage later targets) in
    let own = mul-le-mul_right {m = rate + stage.target} {n = 2 * greatest_rate} stage.length (omega arith) in
    let whole = sum_by-cons (λ (s : Stage). s.length) stage later in
    omega (arith, rest, own, whole)

-- the stages of a ramp within the limits are small
pub small_stages : (start_rate unit : ℕ) (stages : List Stage) → IsWithinLimits (Ramping start_rate unit stages) → AreSmallStages start_rate stages
small_stages start_rate unit stages limits =
    record {
      rate_before = elim (dec_lt greatest_rate start_rate) [
        | yes fast ↦ absurd (limits.rate (inl fast))
        | no slow ↦ omega arith
      ];
      targets = λ k d below. elim (dec_lt greatest_rate (slice_index_or stages k d).target) [
        | yes fast ↦
            let has = Contains-get_or stages k d below in
            absurd (limits.rate (inr (has.0, slice_index_or stages k d, has.1, has.2, fast)))
        | no slow ↦ omega arith
      ];
      duration = ends_within (Ramping start_rate unit stages) limits;
    }

-- for a planned arrival no more is wanted than a ramp may be asked
pub wanted_within : (start_rate unit : ℕ) (stages : List Stage) → IsWithinLimits (Ramping start_rate unit stages) → (k : ℕ) →
    IsPlanned (Ramping start_rate unit stages) k → 2 * unit * (k + 1) ≤ most_wanted
wanted_within start_rate unit stages limits k planned =
    let small = small_stages start_rate unit stages limits in
    let has = ramp_has start_rate stages small.rate_before small.targets in
    let short = small.duration in
    let within = reached_within start_rate 0 (2 * unit * (k + 1)) stages planned in
    omega (arith, has, short, within)

-- an arrival for which more is wanted isn't planned
pub none_wanted : (start_rate unit : ℕ) (stages : List Stage) → IsWithinLimits (Ramping start_rate unit stages) → (k : ℕ) →
    most_wanted / (2 * unit) ≤ k → ¬ IsPlanned (Ramping start_rate unit stages) k
none_wanted start_rate unit stages limits k behind planned =
    let small = small_stages start_rate unit stages limits in
    let has = ramp_has start_rate stages small.rate_before small.targets in
    let short = small.duration in
    let within = reached_within start_rate 0 (2 * unit * (k + 1)) stages planned in
    let some_unit : 0 < unit = elim (dec_lt 0 unit) [
      | yes some ↦ some
      | no none ↦ absurd (limits.duration (inl (inl (omega arith))))
    ] in
    let small_unit : unit ≤ greatest_unit = elim (dec_lt greatest_unit unit) [
      | yes long ↦ absurd (limits.duration (inl (inr long)))
      | no short ↦ omega arith
    ] in
    let over = (div-lt_iff_lt-mul {k = 2 * unit} {x = most_wanted} {y = k + 1} (omega arith)).0 (omega arith) in
    omega (arith, has, short, within, over)

-- one number alone bounds what is planned
pub count_is : (timetable : Timetable) → IsWithinLimits timetable → (n : ℕ) → ((k : ℕ) → k < n → IsPlanned timetable k) →
    ((k : ℕ) → n ≤ k → ¬ IsPlanned timetable k) → n ≡ planned_count timetable
count_is timetable limits n front behind =
    let those = (counted timetable limits).those in
    elim (dec_lt n (planned_count timetable)) [
      | yes below ↦ absurd (behind n (omega arith) ((those n).1 below))
      | no above ↦ elim (dec_lt (planned_count timetable) n) [
        | yes below ↦ let less = (those (planned_count timetable)).0 (front (planned_count timetable) below) in absurd (omega arith)
        | no same ↦ omega arith
      ]
    ]
