use Rattle.std.proofs.Common.{rules}
use Rattle.ld_core.proofs.OtherLemmas.{closed_shown}
use Rattle.ld_core.proofs.machine.Core.all_closed.Goals as goal

pub returns : goal.returns
returns c = closed_shown c.self.inside c.self.invariant c.args.self.now c.self.view_is c.all_closed.result (search rules)
