use Rattle.ld_machine.proofs.FreeLemmas.{holds_hold, holds_let_go, holds_itself, holds_put, holds_same}
use Rattle.ld_machine.proofs.FreeStepLemmas.{once_holds}
use Rattle.ld_machine.proofs.together.held_in_share.Goals as goal

pub returns-clause-held : goal.returns-clause-held
returns-clause-held c = holds_hold

pub returns-clause-let_go : goal.returns-clause-let_go
returns-clause-let_go c = holds_itself

pub returns-clause-others : goal.returns-clause-others
returns-clause-others c = holds_let_go

pub returns-clause-put : goal.returns-clause-put
returns-clause-put c = holds_put

pub returns-clause-same : goal.returns-clause-same
returns-clause-same c = holds_same

pub returns-clause-once : goal.returns-clause-once
returns-clause-once c = once_holds
