use Rattle.std.proofs.Common.{◌≡◌, ◌≤◌, ◌+◌, ◌*◌}
use Rattle.std.specs.Prelude.{drop}
use Rattle.ld_arrival.specs.Limits.{greatest_rate}
use Rattle.ld_arrival.specs.Ramp.{ramp_length, reached_at}
use Rattle.ld_arrival.proofs.ramp.reached_at.Given as goal

-- what the stages behind `begin` reach, and how long they are; and the rate and the sum before them
abbrev pub invariant-loop-stage : goal.invariant-loop-stage
invariant-loop-stage l =
    (l.begin + reached_at l.rate l.done l.wanted (drop l.stage-index l.stages) ≡ reached_at l.start_rate 0 l.wanted l.stages)
    × (l.begin + ramp_length (drop l.stage-index l.stages) ≡ ramp_length l.stages)
    × (l.rate ≤ greatest_rate)
    × (l.done ≤ 2 * greatest_rate * l.begin)
