use Rattle.std.proofs.Common.{rules}
use Rattle.ld_core.proofs.WaitLemmas.{wait_in_core}
use Rattle.ld_core.proofs.machine.Core.wait_moment.Goals as goal

pub returns-in-Some : goal.returns-in-Some
returns-in-Some c =
    wait_in_core c.self.inside c.self.invariant c.args.self.now c.self.view_is c.args.reading c.candidate.result c.next_until.result
    c.candidate.ensures c.next_until.ensures c.in-Some.moment (search rules)

pub returns-in-None : goal.returns-in-None
returns-in-None c =
    wait_in_core c.self.inside c.self.invariant c.args.self.now c.self.view_is c.args.reading c.candidate.result c.next_until.result
    c.candidate.ensures c.next_until.ensures c.saturating_add.result (search rules)
