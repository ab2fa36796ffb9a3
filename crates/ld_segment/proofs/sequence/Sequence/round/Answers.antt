use Rattle.std.proofs.Common.{sym, subst}
use Rattle.ld_segment.specs.Segments.{IsSequence}
use Rattle.ld_segment.proofs.FillingLemmas.{filled_sequence}
use Rattle.ld_segment.proofs.PartLemmas.{segment_sequence}
use Rattle.ld_segment.proofs.sequence.Sequence.round.Goals as goal

pub invariant_of-result : goal.invariant_of-result
invariant_of-result c = subst IsSequence (sym c.in_ok-points.ensures) (filled_sequence _ (segment_sequence c.args.segment.now))

pub returns-clause-sequence : goal.returns-clause-sequence
returns-clause-sequence c = subst IsSequence (sym c.in_ok-points.ensures) (filled_sequence _ (segment_sequence c.args.segment.now))
