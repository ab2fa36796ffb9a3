use Rattle.std.proofs.Common.{refl}
use Rattle.ld_wire.proofs.HeadsLemmas.{first_head}
use Rattle.ld_wire.proofs.heads.Heads.new.Goals as goal

pub returns-clause-empty : goal.returns-clause-empty
returns-clause-empty c = (refl, first_head _ c.new.ensures.items refl refl refl)
