use Rattle.std.proofs.Common.{arith, refl}
use Rattle.ld_segment.specs.Segments.{lacking_behind, lacking_front}
use Rattle.ld_segment.proofs.FillingLemmas.{behind_short, filled_again, filled_is, front_short, segments_kept}
use Rattle.ld_segment.proofs.laws.filled_points.Goals as goal

pub returns-clause-whole : goal.returns-clause-whole
returns-clause-whole c = λ points is. filled_is points (let two = is.some in omega arith) is.rises is.at_most_one

pub returns-clause-kept : goal.returns-clause-kept
returns-clause-kept c = λ points. (lacking_front points, (lacking_behind points, refl, front_short points, behind_short points))

pub returns-clause-once : goal.returns-clause-once
returns-clause-once c = filled_again

pub returns-clause-segments : goal.returns-clause-segments
returns-clause-segments c = segments_kept
