use Rattle.ld_machine.proofs.BusyRoomLemmas.{room_behind_act, room_behind_return}
use Rattle.ld_machine.proofs.together.room_behind_steps.Goals as goal

pub returns-clause-act : goal.returns-clause-act
returns-clause-act c plan state thread t reply n m well = room_behind_act plan state thread t reply well n m

pub returns-clause-returned : goal.returns-clause-returned
returns-clause-returned c = room_behind_return
