use Rattle.ld_wire.proofs.OrderLemmas.{order_is, order_one}
use Rattle.ld_wire.proofs.laws.one_order.Goals as goal

pub returns-clause-is : goal.returns-clause-is
returns-clause-is c = order_is

pub returns-clause-one : goal.returns-clause-one
returns-clause-one c = order_one
