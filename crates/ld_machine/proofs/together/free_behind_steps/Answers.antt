use Rattle.ld_machine.proofs.FreeLemmas.{return_free}
use Rattle.ld_machine.proofs.FreeStepLemmas.{free_behind_act}
use Rattle.ld_machine.proofs.together.free_behind_steps.Goals as goal

pub returns-clause-act : goal.returns-clause-act
returns-clause-act c plan state thread t reply n m other well = free_behind_act plan state thread t reply well n m other

pub returns-clause-returned : goal.returns-clause-returned
returns-clause-returned c plan state thread t reply stint outcome tally =
    return_free plan state thread t stint.scenario stint.user stint.item outcome tally
