use Rattle.ld_rehearsal.proofs.ReturnLemmas.{acts_end}
use Rattle.ld_rehearsal.proofs.stage.Stage.act_all.Goals as goal

pub loop-said-smaller : goal.loop-said-smaller
loop-said-smaller c = acts_end c.loop-said.self c.step.new.self (rw (← c.in-Acted.is) c.step.ensures.answered)
