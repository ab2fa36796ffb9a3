use Rattle.ld_arrival.proofs.CountLemmas as lemmas
use Rattle.ld_arrival.proofs.laws.moments_rise.Goals as goal

pub returns : goal.returns
returns c = λ timetable j k within _. lemmas.moments_rise timetable j k within
