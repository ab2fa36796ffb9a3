use Rattle.std.proofs.Common.{◌∙◌, ap}
use Rattle.ld_segment.proofs.ValueLemmas.{texts}
use Rattle.ld_segment.proofs.RefusalLemmas.{sequence_read}
use Rattle.ld_segment.proofs.sequence.Sequence.read.Goals as goal

pub returns-clause-accepted : goal.returns-clause-accepted
returns-clause-accepted c =
    sequence_read c.args.text.now (texts c.deref.result.now) c.in_ok-points.points.items c.of_points.result
    (ap texts c.deref.ensures.value ∙ c.in_ok-values.ensures) c.in_ok-points.ensures.value c.of_points.ensures.value c.of_points.ensures.sequence
