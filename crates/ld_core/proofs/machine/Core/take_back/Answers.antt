use Rattle.std.proofs.Common.{rules}
use Rattle.ld_core.proofs.OtherLemmas.{returned}
use Rattle.ld_core.proofs.machine.Core.take_back.Goals as goal

pub returns : goal.returns
returns c =
    returned c.args.self.now c.give_back.new.self c.args.thread c.args.reading c.args.stint c.args.finished c.args.tally c.requires.may
    c.outcome_of-outcome.result (search rules) c.give_back.ensures.added
