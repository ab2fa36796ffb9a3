use Rattle.ld_machine.proofs.OrderLemmas.{before_itself, before_along}
use Rattle.ld_machine.proofs.FirstOfAllLemmas.{before_once, not_before_along}
use Rattle.ld_machine.proofs.together.order_of_places.Goals as goal

pub returns-clause-itself : goal.returns-clause-itself
returns-clause-itself c = before_itself

pub returns-clause-along : goal.returns-clause-along
returns-clause-along c = before_along

pub returns-clause-once : goal.returns-clause-once
returns-clause-once c = before_once

pub returns-clause-not_before : goal.returns-clause-not_before
returns-clause-not_before c = not_before_along
