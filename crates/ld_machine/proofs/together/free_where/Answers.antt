use Rattle.ld_machine.proofs.FreeLemmas.{free_tells_all, free_is, free_same}
use Rattle.ld_machine.proofs.together.free_where.Goals as goal

pub returns-clause-free : goal.returns-clause-free
returns-clause-free c state user = (free_tells_all state user, free_is state user)

pub returns-clause-same : goal.returns-clause-same
returns-clause-same c = free_same
