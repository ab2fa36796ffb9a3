use Rattle.ld_machine.specs.Moves.{enabled}
use Rattle.ld_machine.specs.Order.{first_moves}
use Rattle.ld_machine.proofs.ListLemmas.{In-from_Contains}
use Rattle.ld_machine.proofs.OrderLemmas.{none_first, first_place}
use Rattle.ld_machine.proofs.laws.first_acts.Goals as goal

pub returns-clause-exist : goal.returns-clause-exist
returns-clause-exist c plan state t h = none_first (enabled plan state t) h

pub returns-clause-one_place : goal.returns-clause-one_place
returns-clause-one_place c plan state t a b ha hb =
    first_place (enabled plan state t) a b
    (In-from_Contains a (first_moves plan state t) ha.0 ha.1 ha.2)
    (In-from_Contains b (first_moves plan state t) hb.0 hb.1 hb.2)
