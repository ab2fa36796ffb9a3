use Rattle.std.specs.Prelude.{◌+◌, ◌-◌}
use Rattle.ld_rehearsal.specs.Stage.{stage_plan, IsSameMoment, MayReturn}
use Rattle.ld_rehearsal.proofs.stage.Stage.return_all.Given as goal

abbrev pub decreases-loop-user : goal.decreases-loop-user
decreases-loop-user l = (stage_plan l.self).limit - l.last

abbrev pub invariant-loop-user : goal.invariant-loop-user
invariant-loop-user l = IsSameMoment l.fn.self l.self × MayReturn l.self (l.last + 1)
