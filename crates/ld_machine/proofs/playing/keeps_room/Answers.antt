use Rattle.ld_machine.proofs.KeepsRoomLemmas.{legal_room}
use Rattle.ld_machine.proofs.playing.keeps_room.Goals as goal

pub returns : goal.returns
returns c = legal_room
