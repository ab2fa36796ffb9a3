use Rattle.std.specs.Prelude.{◌-◌}
use Rattle.ld_machine.specs.Moment.{last_moment}
use Rattle.ld_rehearsal.specs.Stage.{IsSameRun, MayReturn}
use Rattle.ld_rehearsal.proofs.stage.Stage.run.Given as goal

abbrev pub decreases-loop-alloc : goal.decreases-loop-alloc
decreases-loop-alloc l = last_moment - l.self.moment

abbrev pub invariant-loop-alloc : goal.invariant-loop-alloc
invariant-loop-alloc l = IsSameRun l.fn.self l.self × MayReturn l.self 0
