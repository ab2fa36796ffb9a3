-- Laws of the intervals of ramping users.
use Rattle.std.specs.Prelude.{◌≡◌, ◌<◌, ◌≤◌, ◌↔◌, ℕ, IsTrue, List, [], sum_by}
use Rattle.ld_base.specs.declared.stage.Stage.{Stage}
use Rattle.ld_ramping.specs.Active.{active, is_on, ramp_users}
use Rattle.ld_ramping.specs.Intervals.{intervals_of}
use Rattle.ld_ramping.specs.Rising.{AreRising, EndBy}

-- the intervals of a user rise
abbrev pub IntervalsRise : Type 0
IntervalsRise = (user start : ℕ) (stages : List Stage) → AreRising (intervals_of user start stages)

-- they are over when the stages are
abbrev pub EndInTime : Type 0
EndInTime = (user start : ℕ) (stages : List Stage) →
    EndBy (sum_by (λ stage. stage.length) stages) (intervals_of user start stages)

-- the users that are on at a moment are the first ones
abbrev pub FirstOnes : Type 0
FirstOnes = (user start : ℕ) (stages : List Stage) (moment : ℕ) → 0 < user →
    IsTrue (is_on user start stages moment) ↔ (user ≤ active start stages moment)

-- a user above the greatest number of users has no interval
abbrev pub NoneBeyond : Type 0
NoneBeyond = (user start : ℕ) (stages : List Stage) → ramp_users start stages < user →
    intervals_of user start stages ≡ []
