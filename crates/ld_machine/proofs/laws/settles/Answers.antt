use Rattle.ld_machine.proofs.SettlesLemmas.{is_settled_where_closed}
use Rattle.ld_machine.proofs.laws.settles.Goals as goal

pub returns : goal.returns
returns c = is_settled_where_closed
