use Rattle.ld_ramping.proofs.RiseLemmas.{intervals_are_rising}
use Rattle.ld_ramping.proofs.laws.intervals_rise.Goals as goal

pub returns : goal.returns
returns c = intervals_are_rising
