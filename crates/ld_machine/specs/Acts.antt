-- The entries' acts that each act of the pool writes, and the reply that names it.
use Rattle.std.specs.Prelude.{ℕ, Bool, true, false, List, [], ◌∷◌, count_by, length}
use Rattle.ld_base.specs.declared.act.Act.{Act}
use Rattle.ld_base.specs.declared.act.Act.TheVariants.{Take, Grow, Start, Drop, Late, Release, Stop, Close}
use Rattle.ld_machine.specs.Moves.{Answer, CountLate, StartOn, GrowAndStart, TakeAndStart, DropArrival, Move, StopScenario, ReleaseUser, TakeUser, AnswerArrival, StartIteration, DropIteration, CloseScenario}

-- what the answer to an arrival writes: two acts where a user is grown or taken for it
abbrev pub answer_acts : ℕ → ℕ → ℕ → Answer → List Act
answer_acts n item until CountLate = Late n item ∷ []
answer_acts n item until (StartOn user) = Start n user item until ∷ []
answer_acts n item until (GrowAndStart user slot) = Grow n user slot ∷ Start n user item until ∷ []
answer_acts n item until (TakeAndStart user slot) = Take n user slot ∷ Start n user item until ∷ []
answer_acts n item until DropArrival = Drop n item ∷ []

-- what an act of the pool writes
abbrev pub acts_of : Move → List Act
acts_of (StopScenario n) = Stop n ∷ []
acts_of (ReleaseUser n user) = Release n user ∷ []
acts_of (TakeUser n user slot) = Take n user slot ∷ []
acts_of (AnswerArrival n _ item until answer) = answer_acts n item until answer
acts_of (StartIteration n user item until) = Start n user item until ∷ []
acts_of (DropIteration n item) = Drop n item ∷ []
acts_of (CloseScenario n) = Close n ∷ []

abbrev pub is_start : Act → Bool
is_start (Start _ _ _ _) = true
is_start _ = false

-- how many entries an act of the pool adds
abbrev pub added_entries : Move → ℕ
added_entries move = length (acts_of move)

-- how many users it makes busy
abbrev pub made_busy : Move → ℕ
made_busy move = count_by is_start (acts_of move)

-- the scenario that it is of
abbrev pub scenario_of : Move → ℕ
scenario_of (StopScenario n) = n
scenario_of (ReleaseUser n _) = n
scenario_of (TakeUser n _ _) = n
scenario_of (AnswerArrival n _ _ _ _) = n
scenario_of (StartIteration n _ _ _) = n
scenario_of (DropIteration n _) = n
scenario_of (CloseScenario n) = n
