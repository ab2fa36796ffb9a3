use Rattle.ld_segment.proofs.ValueLemmas.{one_list_of_points}
use Rattle.ld_segment.proofs.laws.one_reading.Goals as goal

pub returns : goal.returns
returns c = one_list_of_points
