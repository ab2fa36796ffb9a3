use Rattle.ld_segment.proofs.FillingLemmas.{last_decides}
use Rattle.ld_segment.proofs.filling.lack_behind.Goals as goal

pub returns-in-Some : goal.returns-in-Some
returns-in-Some c = last_decides c.args.points.now c.in-Some.point.now c.in-Some.ensures.item.3.0 c.in-Some.ensures.item.1
