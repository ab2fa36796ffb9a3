use Rattle.std.specs.Prelude.{None, Some}
use Rattle.std.proofs.Common.{◌∙◌, rules}
use Rattle.ld_core.proofs.OutLemmas.{out_shown}
use Rattle.ld_core.proofs.machine.Core.is_out.Goals as goal

pub returns-in-None : goal.returns-in-None
returns-in-None c = out_shown c.self.inside c.self.invariant c.args.self.now c.self.view_is c.args.thread c.args.stint.now None (search rules)

pub returns-in-Some : goal.returns-in-Some
returns-in-Some c =
    c.plays.ensures ∙ out_shown c.self.inside c.self.invariant c.args.self.now c.self.view_is c.args.thread c.args.stint.now (Some c.in-Some.busy) (search rules)
