-- What holds of stages within the limits, and of what they are asked to reach.
use Rattle.std.specs.Prelude.{ℕ, ◌≤◌, ◌*◌, List, All}
use Rattle.ld_base.specs.declared.stage.Stage.{Stage}
use Rattle.ld_arrival.specs.Limits.{greatest_duration, greatest_rate}
use Rattle.ld_arrival.specs.Ramp.{ramp_length}
use Rattle.ld_arrival.specs.declared.ramp_stage.RampStage.{RampStage}

-- the most that a stage is asked to reach: somewhat more than any ramp has
abbrev pub most_wanted : ℕ
most_wanted = 6000000000000000000000

-- the stage, the rate before it and the sum of the stages before it are within the limits
pub record IsSmallStage (s : RampStage) : Type 0 where
  pub rate : s.rate ≤ greatest_rate
  pub target : s.stage.target ≤ greatest_rate
  pub duration : s.stage.length ≤ greatest_duration
  pub done : s.done ≤ 2 * greatest_rate * greatest_duration

-- the stages and the rate before them are within the limits
pub record AreSmallStages (rate : ℕ) (stages : List Stage) : Type 0 where
  pub rate_before : rate ≤ greatest_rate
  pub targets : All (λ stage. stage.target ≤ greatest_rate) stages
  pub duration : ramp_length stages ≤ greatest_duration
