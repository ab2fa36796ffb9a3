use Rattle.std.proofs.Common.{refl}
use Rattle.ld_machine.specs.State.{opening}
use Rattle.ld_machine.proofs.WaitsOnLemmas.{rehearsed_unstopped}
use Rattle.ld_machine.proofs.virtual_time.uncommanded.Goals as goal

pub returns : goal.returns
returns c plan history h = rehearsed_unstopped plan history (opening plan) h refl
