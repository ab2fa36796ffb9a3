use Rattle.ld_segment.specs.Printed.{sequence_text}
use Rattle.std.proofs.Common.{arith}
use Rattle.ld_segment.proofs.ReadBackLemmas.{sequence_reads}
use Rattle.ld_segment.proofs.RefusalLemmas.{sequence_accepted}
use Rattle.ld_segment.proofs.laws.sequences_read_back.Goals as goal

pub returns-clause-value : goal.returns-clause-value
returns-clause-value c = λ points is short. sequence_reads points (let two = is.some in omega arith) short

pub returns-clause-accepted : goal.returns-clause-accepted
returns-clause-accepted c = λ points is short.
    sequence_accepted (sequence_text points) points (sequence_reads points (let two = is.some in omega arith) short) is
