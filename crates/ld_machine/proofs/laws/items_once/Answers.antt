use Rattle.ld_machine.specs.State.{opening}
use Rattle.ld_machine.proofs.ItemLemmas.{steps_once}
use Rattle.ld_machine.proofs.laws.items_once.Goals as goal

pub returns : goal.returns
returns c plan history n part h stands some = (steps_once plan part n stands some history (opening plan) h).1
