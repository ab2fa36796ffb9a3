use Rattle.std.proofs.Common.{◌∷◌, []}
use Rattle.ld_segment.specs.Printed.{segment_text}
use Rattle.ld_segment.proofs.PartLemmas.{segment_sequence}
use Rattle.ld_segment.proofs.ReadBackLemmas.{segment_reads}
use Rattle.ld_segment.proofs.RefusalLemmas.{segment_accepted}
use Rattle.ld_segment.proofs.laws.segments_read_back.Goals as goal

pub returns-clause-value : goal.returns-clause-value
returns-clause-value c = λ s from to. segment_reads s.from s.to from to

pub returns-clause-accepted : goal.returns-clause-accepted
returns-clause-accepted c = λ s from to.
    segment_accepted (segment_text s.from s.to) (s.from ∷ s.to ∷ []) (segment_reads s.from s.to from to) (segment_sequence s).at_most_one (segment_sequence s).rises
