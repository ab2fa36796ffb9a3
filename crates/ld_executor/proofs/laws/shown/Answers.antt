use Rattle.ld_executor.proofs.ShownLemmas.{shown_closed, shown_fits, shown_inside}
use Rattle.ld_executor.proofs.laws.shown.Goals as goal

pub returns-clause-users : goal.returns-clause-users
returns-clause-users c = shown_fits

pub returns-clause-external : goal.returns-clause-external
returns-clause-external c = shown_inside

pub returns-clause-closed : goal.returns-clause-closed
returns-clause-closed c = shown_closed
