use Rattle.ld_core.proofs.OtherLemmas.{denied_other}
use Rattle.ld_core.proofs.machine.Core.control_other.Goals as goal

pub returns : goal.returns
returns c thread reading = denied_other c.self.inside c.self.invariant c.args.self.now c.self.view_is thread reading c.args.command c.requires.other
