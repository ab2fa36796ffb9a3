-- Ramps: stages, in each of which the rate goes in a straight line from the rate before the stage to its target.
use Rattle.std.specs.Prelude.{ℕ, ◌+◌, ◌*◌, ◌&&◌, Bool, List, [], ◌∷◌, Option, find, nat_le, nat_lt, sum_by, unwrap_or}
use Rattle.std.specs.List.{range_with_len}
use Rattle.ld_base.specs.declared.stage.Stage.{Stage}

-- the length of all stages
abbrev pub ramp_length : List Stage → ℕ
ramp_length stages = sum_by (λ stage. stage.length) stages

-- the sum of a stage's first and last rate, times its length: twice its arrivals, times the unit
abbrev pub stage_sum : (rate : ℕ) → Stage → ℕ
stage_sum rate stage = (rate + stage.target) * stage.length

-- At t, counted from its begin, a stage has reached `wanted`, where the rate before it is `rate` and the sum of the
-- stages before it `done`. A stage without a length reaches nothing.
abbrev pub is_reached : (rate done wanted : ℕ) → Stage → ℕ → Bool
is_reached rate done wanted stage t =
    nat_lt 0 stage.length
    && nat_le (stage.length * wanted + rate * t * t)
    (2 * stage.length * rate * t + stage.target * t * t + stage.length * done)

-- the least moment of a stage at which it has reached `wanted`, if it ever does
abbrev pub first_reached : (rate done wanted : ℕ) → Stage → Option ℕ
first_reached rate done wanted stage = find (is_reached rate done wanted stage) (range_with_len 0 (stage.length + 1))

-- the moment at which stages have reached `wanted`, in the first that does; the end of all, where none does
abbrev pub reached_at : (rate done wanted : ℕ) → List Stage → ℕ
reached_at rate done wanted [] = 0
reached_at rate done wanted (stage ∷ later) =
    unwrap_or (first_reached rate done wanted stage)
    (stage.length + reached_at stage.target (done + stage_sum rate stage) wanted later)

-- the sum of all stages
abbrev pub ramp_sum : (rate : ℕ) → List Stage → ℕ
ramp_sum rate [] = 0
ramp_sum rate (stage ∷ later) = stage_sum rate stage + ramp_sum stage.target later
