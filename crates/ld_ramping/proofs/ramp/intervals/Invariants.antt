use Rattle.std.proofs.Common.{◌≡◌, ◌≤◌, ◌+◌, ◌++◌, drop, sum_by}
use Rattle.ld_ramping.specs.Intervals.{intervals_of, longest, spans}
use Rattle.ld_ramping.specs.Turns.{listed, turns_in}
use Rattle.ld_ramping.proofs.ramp.intervals.Given as goal

abbrev pub invariant-loop-stage : goal.invariant-loop-stage
invariant-loop-stage l =
    (l.begin + sum_by (λ stage. stage.length) (drop l.stage-index l.fn.stages) ≤ longest)
    × (l.found.items ++ spans (listed l.since ++ turns_in l.user l.begin l.users (drop l.stage-index l.fn.stages))
    ≡ intervals_of l.user l.fn.start l.fn.stages)
