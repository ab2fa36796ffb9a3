use Rattle.ld_machine.proofs.ListLemmas.{Contains-from_In}
use Rattle.ld_machine.proofs.FirstOfAllLemmas.{In-of, is_first, first_is, first_by_each}
use Rattle.ld_machine.proofs.together.first_of_all.Goals as goal

pub returns-clause-are : goal.returns-clause-are
returns-clause-are c plan state t m =
    (λ h. first_is plan state t m (In-of h), λ h. Contains-from_In m (is_first plan state t h.0.0 m h.0.1 h.1))

pub returns-clause-by_each : goal.returns-clause-by_each
returns-clause-by_each c plan state t n m act each = Contains-from_In m (first_by_each plan state t n m act each)
