use Rattle.std.proofs.Common.{◌-◌, ◌≡◌, ◌<◌, ◌≤◌, ℕ, true, false}
use Rattle.ld_arrival.specs.Ramp.{is_reached}
use Rattle.ld_arrival.proofs.ramp_stage.RampStage.first_reached.Given as goal

-- the stage has reached `wanted` at `high`, and nowhere below `low`
abbrev pub invariant-loop-low : goal.invariant-loop-low
invariant-loop-low l =
    (l.low ≤ l.high) × (l.high ≤ l.self.stage.length)
    × (is_reached l.self.rate l.self.done l.wanted l.self.stage l.high ≡ true)
    × ((t : ℕ) → t < l.low → is_reached l.self.rate l.self.done l.wanted l.self.stage t ≡ false)

abbrev pub decreases-loop-low : goal.decreases-loop-low
decreases-loop-low l = l.high - l.low
