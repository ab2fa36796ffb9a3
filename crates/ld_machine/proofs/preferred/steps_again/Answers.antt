use Rattle.std.proofs.Common.{sym, ◌∙◌}
use Rattle.ld_machine.proofs.ListLemmas.{Contains-from_In}
use Rattle.ld_machine.proofs.FirstOfAllLemmas.{In-of}
use Rattle.ld_machine.proofs.OneOnUserLemmas.{first_by_user}
use Rattle.ld_machine.proofs.PreferredLemmas.{steps_come_again, steps_alone}
use Rattle.ld_machine.proofs.preferred.steps_again.Goals as goal

pub returns-clause-one : goal.returns-clause-one
returns-clause-one c plan state t user a b well first_a first_b on_a on_b =
    first_by_user plan state t a b (In-of first_a) (In-of first_b) well (on_a ∙ sym on_b)

pub returns-clause-again : goal.returns-clause-again
returns-clause-again c plan state thread ask t r well h = Contains-from_In r (steps_come_again plan state thread t well ask r (In-of h))

pub returns-clause-alone : goal.returns-clause-alone
returns-clause-alone c plan state thread ask t a b well at_a at_b = steps_alone plan state thread t well ask a b (In-of at_a) (In-of at_b)
