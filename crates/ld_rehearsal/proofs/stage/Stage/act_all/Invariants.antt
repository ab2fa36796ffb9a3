use Rattle.std.specs.Prelude.{◌-◌, length}
use Rattle.ld_rehearsal.specs.Stage.{stage_plan, IsActing, IsSameMoment}
use Rattle.ld_rehearsal.proofs.stage.Stage.act_all.Given as goal

abbrev pub decreases-loop-said : goal.decreases-loop-said
decreases-loop-said l = (stage_plan l.self).entry_limit - length l.self.core.entries

abbrev pub invariant-loop-said : goal.invariant-loop-said
invariant-loop-said l = IsSameMoment l.fn.self l.self × IsActing l.self
