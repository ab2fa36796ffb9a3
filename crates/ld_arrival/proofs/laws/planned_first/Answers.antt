use Rattle.ld_arrival.proofs.CountLemmas.{counted}
use Rattle.ld_arrival.proofs.laws.planned_first.Goals as goal

pub returns-clause-first : goal.returns-clause-first
returns-clause-first c = λ timetable limits. (counted timetable limits).all

pub returns-clause-below : goal.returns-clause-below
returns-clause-below c = λ timetable limits. (counted timetable limits).those
