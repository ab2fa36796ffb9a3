use Rattle.std.proofs.Common.{◌≡◌, ◌+◌}
use Rattle.std.specs.Prelude.{drop}
use Rattle.ld_arrival.specs.Ramp.{ramp_length}
use Rattle.ld_plan.proofs.stages_length.stages_length.Given as goal

abbrev pub invariant-loop-stage : goal.invariant-loop-stage
invariant-loop-stage l = l.length + ramp_length (drop l.stage-index l.stages) ≡ ramp_length l.stages
