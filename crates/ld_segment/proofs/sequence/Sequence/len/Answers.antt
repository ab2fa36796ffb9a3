use Rattle.std.proofs.Common.{◌≡◌, length, arith, ap}
use Rattle.ld_segment.proofs.FillingLemmas.{length_segments}
use Rattle.ld_segment.proofs.sequence.Sequence.len.Goals as goal

pub returns-clause-count : goal.returns-clause-count
returns-clause-count c =
    let long = length_segments c.args.self.now in
    let same : length c.self.inside.points.items ≡ length c.args.self.now = ap length c.self.view_is in
    omega arith
