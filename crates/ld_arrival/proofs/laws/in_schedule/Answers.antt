use Rattle.ld_arrival.proofs.ScheduleLaws as lemmas
use Rattle.ld_arrival.proofs.laws.in_schedule.Goals as goal

pub returns : goal.returns
returns c = lemmas.in_schedule
