use Rattle.std.proofs.Common.{◌∙◌, sym}
use Rattle.ld_core.proofs.OtherLemmas.{look_alive, look_over}
use Rattle.ld_core.proofs.machine.Core.look.Goals as goal

pub returns-then-all_closed : goal.returns-then-all_closed
returns-then-all_closed c thread reading = look_over c.args.self.now thread reading (sym c.all_closed.ensures ∙ c.if-all_closed.true)

pub returns : goal.returns
returns c thread reading = look_alive c.self.inside c.self.invariant c.args.self.now c.self.view_is (sym c.all_closed.ensures ∙ c.if-all_closed.false) thread reading
