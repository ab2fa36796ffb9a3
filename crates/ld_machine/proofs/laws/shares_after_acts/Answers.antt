use Rattle.ld_machine.proofs.ShareEffectLemmas.{own_share, other_share, commanded_share}
use Rattle.ld_machine.proofs.laws.shares_after_acts.Goals as goal

pub returns-clause-own : goal.returns-clause-own
returns-clause-own c plan state thread t act n part share of stands at = own_share plan state thread t act n part share of stands at

pub returns-clause-others : goal.returns-clause-others
returns-clause-others c plan state thread t act n m of other = other_share plan state thread t act n m of other

pub returns-clause-commands : goal.returns-clause-commands
returns-clause-commands c plan state thread t command n part share at = commanded_share plan state thread t command n part share at
