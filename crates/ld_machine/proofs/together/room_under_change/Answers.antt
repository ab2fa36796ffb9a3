use Rattle.ld_machine.proofs.BusyRoomLemmas.{room_share, room_same, room_end, room_command}
use Rattle.ld_machine.proofs.together.room_under_change.Goals as goal

pub returns-clause-changed : goal.returns-clause-changed
returns-clause-changed c = room_share

pub returns-clause-same : goal.returns-clause-same
returns-clause-same c = room_same

pub returns-clause-ended : goal.returns-clause-ended
returns-clause-ended c = room_end

pub returns-clause-commanded : goal.returns-clause-commanded
returns-clause-commanded c = room_command
