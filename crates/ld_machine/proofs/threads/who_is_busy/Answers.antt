use Rattle.ld_machine.proofs.WhoIsBusyLemmas.{busy_with_stint, busy_with_nothing}
use Rattle.ld_machine.proofs.threads.who_is_busy.Goals as goal

pub returns-clause-stint : goal.returns-clause-stint
returns-clause-stint c = busy_with_stint

pub returns-clause-nothing : goal.returns-clause-nothing
returns-clause-nothing c = busy_with_nothing
