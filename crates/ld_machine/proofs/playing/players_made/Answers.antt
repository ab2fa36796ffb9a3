use Rattle.ld_machine.proofs.PlayersLemmas.{player_made}
use Rattle.ld_machine.proofs.playing.players_made.Goals as goal

pub returns : goal.returns
returns c = player_made
