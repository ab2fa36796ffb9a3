-- The order of enabled acts, and the first ones of it.
use Rattle.std.specs.Prelude.{ℕ, Bool, false, not, ◌&&◌, ◌||◌, ◌==◌, nat_lt, List, [], ◌∷◌, filter}
use Rattle.std.specs.List.{list_any}
use Rattle.ld_machine.specs.Plan.{Plan}
use Rattle.ld_machine.specs.State.{State}
use Rattle.ld_machine.specs.Moves.{Move, StopScenario, ReleaseUser, TakeUser, AnswerArrival, StartIteration, DropIteration, CloseScenario, enabled}

-- the place of an act in the order: its rank, and behind it what tells acts of one rank apart. An
-- arrival goes by its moment and then its scenario, the others by their scenario, and a Take then by
-- its slot
abbrev pub place_of : Move → List ℕ
place_of (StopScenario n) = 1 ∷ n ∷ []
place_of (ReleaseUser n _) = 2 ∷ n ∷ []
place_of (TakeUser n _ slot) = 3 ∷ n ∷ slot ∷ []
place_of (AnswerArrival n due _ _ _) = 4 ∷ due ∷ n ∷ []
place_of (StartIteration n _ _ _) = 5 ∷ n ∷ []
place_of (DropIteration n _) = 6 ∷ n ∷ []
place_of (CloseScenario n) = 7 ∷ n ∷ []

-- one place is before another, where the first number that differs is smaller
abbrev pub is_before : List ℕ → List ℕ → Bool
is_before (a ∷ more) (b ∷ others) = nat_lt a b || ((a == b) && is_before more others)
is_before _ _ = false

-- the acts that no other of them is before. They differ in the user alone, and in what goes with it
abbrev pub first_among : List Move → List Move
first_among moves = filter (λ m. not (list_any (λ other. is_before (place_of other) (place_of m)) moves)) moves

-- the first acts that are enabled in the state at the reading t
abbrev pub first_moves : Plan → State → ℕ → List Move
first_moves plan state t = first_among (enabled plan state t)
