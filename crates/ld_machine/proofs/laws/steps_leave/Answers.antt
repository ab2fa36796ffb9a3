use Rattle.ld_machine.specs.Step.{results}
use Rattle.ld_machine.proofs.ListLemmas.{In-from_Contains}
use Rattle.ld_machine.proofs.ResultLemmas.{results_leave}
use Rattle.ld_machine.proofs.laws.steps_leave.Goals as goal

pub returns : goal.returns
returns c plan state thread ask t r h = results_leave plan state thread ask t r (In-from_Contains r (results plan state thread ask t) h.0 h.1 h.2)
