use Rattle.ld_segment.proofs.FillingLemmas as lemmas
use Rattle.ld_segment.proofs.laws.one_position.Goals as goal

pub returns : goal.returns
returns c = lemmas.one_position
