use Rattle.ld_ramping.proofs.RiseLemmas.{intervals_end}
use Rattle.ld_ramping.proofs.laws.end_in_time.Goals as goal

pub returns : goal.returns
returns c = intervals_end
