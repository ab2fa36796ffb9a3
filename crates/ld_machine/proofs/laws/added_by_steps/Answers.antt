use Rattle.std.proofs.Common.{[], ◌∷◌}
use Rattle.ld_machine.proofs.ResultLemmas.{adds_tells, adds_passes}
use Rattle.ld_machine.proofs.laws.added_by_steps.Goals as goal

pub returns-clause-one : goal.returns-clause-one
returns-clause-one c plan state one = (adds_tells plan state one (one ∷ []), adds_passes plan state one (one ∷ []))

pub returns-clause-two : goal.returns-clause-two
returns-clause-two c plan state one two = (adds_tells plan state one (one ∷ two ∷ []), adds_passes plan state one (one ∷ two ∷ []))
