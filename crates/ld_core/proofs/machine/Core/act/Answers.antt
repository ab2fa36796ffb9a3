use Rattle.std.proofs.Common.{◌∙◌, sym, rules}
use Rattle.ld_core.proofs.AskLemmas.{waits}
use Rattle.ld_core.proofs.FirstLemmas.{free_told}
use Rattle.ld_core.proofs.OtherLemmas.{over}
use Rattle.ld_core.proofs.machine.Core.act.Goals as goal

pub returns-then-all_closed : goal.returns-then-all_closed
returns-then-all_closed c = over c.args.self.now c.args.thread c.args.reading (sym c.all_closed.ensures ∙ c.if-all_closed.true)

pub first-requires : goal.first-requires
first-requires c = record { free = free_told c.self.inside c.self.invariant c.args.self.now c.self.view_is _ (search rules) }

pub act_first-requires-clause-free : goal.act_first-requires-clause-free
act_first-requires-clause-free c = free_told c.self.inside c.self.invariant c.args.self.now c.self.view_is _ (search rules)

pub returns-in-None : goal.returns-in-None
returns-in-None c =
    waits c.args.self.now c.args.thread c.args.reading c.wait_moment.result (sym c.all_closed.ensures ∙ c.if-all_closed.false) c.in-None.ensures.none c.wait_moment.ensures
