use Rattle.std.proofs.Common.{◌≡◌, ◌≤◌, ◌*◌, ◌^◌, take}
use Rattle.std.specs.Prelude.{sum_by}
use Rattle.ld_base.specs.declared.stage.Stage.{Stage}
use Rattle.ld_options.proofs.stages.length_of.Given as goal

abbrev pub invariant-loop-stage : goal.invariant-loop-stage
invariant-loop-stage l =
    record {
      sum : l.sum ≡ sum_by (λ (stage : Stage). stage.length) (take l.stage-index l.stages);
      few : l.sum ≤ l.stage-index * 2 ^ 64;
    }
