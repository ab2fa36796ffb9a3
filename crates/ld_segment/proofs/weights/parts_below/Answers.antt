use Rattle.ld_segment.proofs.WeightsLengthLemmas.{parts_times}
use Rattle.ld_segment.proofs.weights.parts_below.Goals as goal

pub returns : goal.returns
returns c = parts_times c.args.parts c.args.point.now c.requires.whole
