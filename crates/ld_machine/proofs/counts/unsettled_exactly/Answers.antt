use Rattle.ld_machine.proofs.UnsettledLemmas.{unsettled_tells}
use Rattle.ld_machine.proofs.counts.unsettled_exactly.Goals as goal

pub returns : goal.returns
returns c = unsettled_tells
