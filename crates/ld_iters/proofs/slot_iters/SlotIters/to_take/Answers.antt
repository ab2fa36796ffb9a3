use Rattle.std.proofs.Common.{◌∙◌, rules}
use Rattle.ld_course.proofs.FirstLemmas.{nobody_free}
use Rattle.ld_iters.proofs.SlotsLemmas.{first_taken, nobody_takes, not_live_takes}
use Rattle.ld_iters.proofs.slot_iters.SlotIters.to_take.Goals as goal
use Rattle.ld_iters.proofs.slot_iters.SlotIters.to_take.Goals.{else-free-via-else-free, else-free-via-then-free+else-is_live}

pub returns-then-is_live-clause-first : goal.returns-then-is_live-clause-first
returns-then-is_live-clause-first c = first_taken c.args.self.now c.args.reading c.least_with.result (λ s shows. search rules) (search rules)

pub returns-then-is_live-clause-none : goal.returns-then-is_live-clause-none
returns-then-is_live-clause-none c = nobody_takes c.args.self.now c.args.reading c.args.free c.least_with.result (λ s shows. search rules) (search rules)

pub returns-else-free-clause-none : goal.returns-else-free-clause-none
returns-else-free-clause-none c s n users shows free =
    elim c.else-free.branch [
      | else-free-via-then-free+else-is_live w ↦ not_live_takes c.args.self.now s shows n users c.args.reading (search rules)
      | else-free-via-else-free w ↦ nobody_free n s users c.args.reading (free ∙ w.if-free.false)
    ]
