-- Steps with a preferred user: where a first act is on this user, it is the one that comes.
use Rattle.std.specs.Prelude.{ℕ, Bool, false, ◌==◌, List, [], ◌∷◌, Option, None, Some, Contains, filter, unwrap_or, if◌then◌else◌}
use Rattle.std.specs.List.{list_any}
use Rattle.std.specs.Option.{option_map_or}
use Rattle.ld_base.specs.declared.act.Act.{Act}
use Rattle.ld_base.specs.declared.act.Act.TheVariants.{Take, Grow, Start, Return, Release}
use Rattle.ld_base.specs.declared.ask.Ask.{Ask}
use Rattle.ld_base.specs.declared.ask.Ask.TheVariants as asks
use Rattle.ld_base.specs.declared.entry.Entry.{Entry}
use Rattle.ld_base.specs.declared.reply.Reply.TheVariants.{Over}
use Rattle.ld_machine.specs.Plan.{Plan}
use Rattle.ld_machine.specs.State.{State, all_closed}
use Rattle.ld_machine.specs.Moves.{Answer, StartOn, GrowAndStart, TakeAndStart, Move, ReleaseUser, TakeUser, AnswerArrival, StartIteration}
use Rattle.ld_machine.specs.Order.{first_moves}
use Rattle.ld_machine.specs.Step.{Result, answered, open_results, results}

-- the user that an answer to an arrival is on, if it is on one
abbrev pub answer_user : Answer → Option ℕ
answer_user (StartOn user) = Some user
answer_user (GrowAndStart user _) = Some user
answer_user (TakeAndStart user _) = Some user
answer_user _ = None

-- the user that an act is on, if it is on one
abbrev pub user_of : Move → Option ℕ
user_of (ReleaseUser _ user) = Some user
user_of (TakeUser _ user _) = Some user
user_of (AnswerArrival _ _ _ _ answer) = answer_user answer
user_of (StartIteration _ user _ _) = Some user
user_of _ = None

-- the act is on this user
abbrev pub is_on : ℕ → Move → Bool
is_on user move = option_map_or (λ k. k == user) (user_of move) false

-- of some acts those on the preferred user, where there are any, and else all
abbrev pub preferred_among : ℕ → List Move → List Move
preferred_among prefer moves = if list_any (is_on prefer) moves then filter (is_on prefer) moves else moves

-- the first acts of which one comes where this user is preferred
abbrev pub preferred_moves : Plan → State → ℕ → ℕ → List Move
preferred_moves plan state t prefer = preferred_among prefer (first_moves plan state t)

-- what an ask of a thread may give where this user is preferred; only an act may choose a user
abbrev pub results_as : Plan → State → ℕ → Ask → ℕ → ℕ → List Result
results_as plan state thread asks.Act t prefer =
    if all_closed state then answered state Over ∷ [] else open_results plan state thread t (preferred_moves plan state t prefer)
results_as plan state thread ask t prefer = results plan state thread ask t

-- in the state the ask of a thread at the reading t may give this result where this user is preferred
abbrev pub IsStepAs : Plan → State → ℕ → Ask → ℕ → ℕ → Result → Type 0
IsStepAs plan state thread ask t prefer result = Contains (results_as plan state thread ask t prefer) result

-- the user that an act of an entry is on, if it is on one
abbrev pub user_of_act : Act → Option ℕ
user_of_act (Take _ user _) = Some user
user_of_act (Grow _ user _) = Some user
user_of_act (Start _ user _ _) = Some user
user_of_act (Return _ user _ _ _) = Some user
user_of_act (Release _ user) = Some user
user_of_act _ = None

-- whom to prefer for the step that adds these entries: the user that the first of them is on, or else 0,
-- which is no user's number
abbrev pub preferred_for : List Entry → ℕ
preferred_for [] = 0
preferred_for (entry ∷ _) = unwrap_or (user_of_act entry.act) 0
