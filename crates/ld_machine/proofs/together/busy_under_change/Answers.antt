use Rattle.std.proofs.Common.{ap}
use Rattle.ld_machine.proofs.BusyLemmas.{busy_share, busy_same, absent_share}
use Rattle.ld_machine.proofs.together.busy_under_change.Goals as goal

pub returns-clause-changed : goal.returns-clause-changed
returns-clause-changed c = busy_share

pub returns-clause-same : goal.returns-clause-same
returns-clause-same c = busy_same

pub returns-clause-absent : goal.returns-clause-absent
returns-clause-absent c state n change h = ap (λ shares. record state { shares = shares }) (absent_share n change state.shares h)
