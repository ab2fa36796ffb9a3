-- Worked examples of ramps, whose stages are written as their targets and lengths.
use Rattle.std.specs.Prelude.{◌≡◌, ℕ, List, [], ◌∷◌}
use Rattle.ld_base.specs.declared.stage.Stage.{Stage}
use Rattle.ld_ramping.specs.declared.interval.Interval.{Interval}
use Rattle.ld_ramping.specs.Active.{active, ramp_users}
use Rattle.ld_ramping.specs.Intervals.{intervals_of}

abbrev pub stage : (target length : ℕ) → Stage
stage target length = record { target = target; length = length }

abbrev pub interval : (on off : ℕ) → Interval
interval on off = record { on = on; off = off }

-- from 0 to 2 users in ten seconds, and back to 0 in ten seconds
abbrev pub up_and_down : List Stage
up_and_down = stage 2 10000000000 ∷ stage 0 10000000000 ∷ []

-- at once to 2 users, kept for a second, then at once to 0 and back to 1, kept for a second
abbrev pub jumps : List Stage
jumps = stage 2 0 ∷ stage 2 1000000000 ∷ stage 0 0 ∷ stage 1 0 ∷ stage 1 1000000000 ∷ []

-- the intervals of users 1 and 2; a user that goes off and on again at one moment has two that meet there
pub record AreWorked : Type 0 where
  pub first : intervals_of 1 0 up_and_down ≡ interval 5000000000 20000000000 ∷ []
  pub second : intervals_of 2 0 up_and_down ≡ interval 10000000000 15000000000 ∷ []
  pub third : intervals_of 3 0 up_and_down ≡ []
  pub meeting : intervals_of 1 0 jumps ≡ interval 0 1000000000 ∷ interval 1000000000 2000000000 ∷ []
  pub jumped : intervals_of 2 0 jumps ≡ interval 0 1000000000 ∷ []
  pub started : intervals_of 1 1 (stage 1 10 ∷ []) ≡ interval 0 10 ∷ []

-- how many users are on at moments of these ramps, and how many there are at most
pub record AreCounted : Type 0 where
  pub none : active 0 up_and_down 4999999999 ≡ 0
  pub first : active 0 up_and_down 5000000000 ≡ 1
  pub both : active 0 up_and_down 10000000000 ≡ 2
  pub second_off : active 0 up_and_down 15000000000 ≡ 1
  pub over : active 0 up_and_down 20000000000 ≡ 0
  pub meeting : active 0 jumps 1000000000 ≡ 1
  pub most : ramp_users 0 up_and_down ≡ 2
  pub most_at_first : ramp_users 3 up_and_down ≡ 3
