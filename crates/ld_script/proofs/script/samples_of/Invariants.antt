use Rattle.std.proofs.Common.{◌≡◌, ◌≤◌, take}
use Rattle.ld_script.specs.Step.{sample_count}
use Rattle.ld_script.proofs.script.samples_of.Given as goal

abbrev pub invariant-loop-step : goal.invariant-loop-step
invariant-loop-step l = (l.room ≡ sample_count (take l.step-index l.steps)) × (l.room ≤ l.step-index)
