use Rattle.ld_ramping.proofs.ShownLemmas.{closed_shown, no_arrivals, not_external, users_fitting}
use Rattle.ld_ramping.proofs.laws.shown.Goals as goal

pub returns-clause-arrivals : goal.returns-clause-arrivals
returns-clause-arrivals c = no_arrivals

pub returns-clause-users : goal.returns-clause-users
returns-clause-users c = users_fitting

pub returns-clause-external : goal.returns-clause-external
returns-clause-external c = not_external

pub returns-clause-closed : goal.returns-clause-closed
returns-clause-closed c = closed_shown
