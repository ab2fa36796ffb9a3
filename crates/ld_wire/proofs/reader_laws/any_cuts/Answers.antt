use Rattle.ld_wire.proofs.CutLemmas.{both_refused, both_whole}
use Rattle.ld_wire.proofs.reader_laws.any_cuts.Goals as goal

pub returns-clause-whole : goal.returns-clause-whole
returns-clause-whole c = both_whole

pub returns-clause-refused : goal.returns-clause-refused
returns-clause-refused c = both_refused
