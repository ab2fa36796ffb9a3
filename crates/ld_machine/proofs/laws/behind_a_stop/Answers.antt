use Rattle.ld_machine.specs.State.{opening}
use Rattle.ld_machine.proofs.StopLemmas.{steps_wind_down}
use Rattle.ld_machine.proofs.laws.behind_a_stop.Goals as goal

pub returns : goal.returns
returns c plan history h = steps_wind_down plan history (opening plan) h
