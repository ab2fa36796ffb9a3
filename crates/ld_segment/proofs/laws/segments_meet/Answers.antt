use Rattle.ld_segment.proofs.FillingLemmas as lemmas
use Rattle.ld_segment.proofs.laws.segments_meet.Goals as goal

pub returns : goal.returns
returns c = lemmas.segments_meet
