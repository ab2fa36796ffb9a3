use Rattle.ld_machine.specs.Effect.{put_condition, let_go}
use Rattle.ld_machine.proofs.FreeLemmas.{holds_let_go, holds_put, holds_same, held_same, held_hold, held_let_go, among_held}
use Rattle.ld_machine.proofs.FreeStepLemmas.{share_held}
use Rattle.ld_machine.proofs.together.held_under_change.Goals as goal

pub returns-clause-held : goal.returns-clause-held
returns-clause-held c = held_hold

pub returns-clause-let_go : goal.returns-clause-let_go
returns-clause-let_go c = held_let_go

pub returns-clause-others : goal.returns-clause-others
returns-clause-others c state n user other apart = held_same state n (let_go user) other (λ share. holds_let_go user other share apart)

pub returns-clause-put : goal.returns-clause-put
returns-clause-put c state n user other condition = held_same state n (put_condition user condition) other (holds_put user other condition)

pub returns-clause-same : goal.returns-clause-same
returns-clause-same c state n user change same = held_same state n change user (λ share. holds_same user (change share) share (same share))

pub returns-clause-among : goal.returns-clause-among
returns-clause-among c state n user share = among_held user n share state.shares

pub returns-clause-some : goal.returns-clause-some
returns-clause-some c = share_held
