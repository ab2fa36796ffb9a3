use Rattle.ld_machine.proofs.WhoHoldsLemmas.{holder_in_share, no_holder}
use Rattle.ld_machine.proofs.holders.who_holds.Goals as goal

pub returns-clause-share : goal.returns-clause-share
returns-clause-share c = holder_in_share

pub returns-clause-nobody : goal.returns-clause-nobody
returns-clause-nobody c = no_holder
