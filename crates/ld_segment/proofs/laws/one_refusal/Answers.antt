use Rattle.ld_segment.proofs.OneRefusalLemmas.{one_parts_refusal, one_segment_refusal, one_sequence_refusal}
use Rattle.ld_segment.proofs.laws.one_refusal.Goals as goal

pub returns-clause-segment : goal.returns-clause-segment
returns-clause-segment c = one_segment_refusal

pub returns-clause-sequence : goal.returns-clause-sequence
returns-clause-sequence c = one_sequence_refusal

pub returns-clause-parts : goal.returns-clause-parts
returns-clause-parts c = one_parts_refusal
