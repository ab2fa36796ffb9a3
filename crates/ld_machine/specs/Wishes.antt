-- Wishes: the acts that a scenario's wish stands for, and the wishes that tell its first acts.
use Rattle.std.specs.Prelude.{◌≡◌, ℕ, Bool, true, false, ◌+◌, nat_lt, List, [], ◌∷◌, ◌++◌, Option, None, Some, Contains, map, is_some, if◌then◌else◌}
use Rattle.ld_base.specs.declared.wish.Wish.{Wish}
use Rattle.ld_base.specs.declared.wish.Wish.TheVariants.{Nothing, Release, Take, Start, More, Drop, Late, Close}
use Rattle.ld_machine.specs.Plan.{Executor, ArrivalRate, Part, hard_moment}
use Rattle.ld_machine.specs.Scenario.{Scenario, first_of}
use Rattle.ld_machine.specs.Moves.{Answer, CountLate, StartOn, GrowAndStart, TakeAndStart, DropArrival, Move, ReleaseUser, TakeUser, AnswerArrival, StartIteration, DropIteration, CloseScenario, Users, releases, takes, arrivals, starts, drops, closes}
use Rattle.ld_machine.specs.Order.{is_before, place_of}

-- the enabled acts of scenario number n, its stop aside
abbrev pub later_moves : ℕ → Users → Scenario → ℕ → List Move
later_moves n users s t =
    releases n s t ++ takes n s users t ++ arrivals n s users t ++ starts n s t ++ drops n s t ++ closes n s t

-- ---- what a wish stands for

-- an executor of arrivals
abbrev pub has_arrivals : Executor → Bool
has_arrivals (ArrivalRate _ _ _) = true
has_arrivals _ = false

-- an item that starts on a user
abbrev pub start_wished : Bool → ℕ → ℕ → ℕ → ℕ → ℕ → Move
start_wished true n user item until due = AnswerArrival n due item until (StartOn user)
start_wished false n user item until due = StartIteration n user item until

-- an item that is given up
abbrev pub drop_wished : Bool → ℕ → ℕ → ℕ → ℕ → Move
drop_wished true n item until due = AnswerArrival n due item until DropArrival
drop_wished false n item until due = DropIteration n item

-- what becomes of a due arrival whose scenario may hold one more user: it starts on a user that is
-- grown for this slot, where one more may be made; else on a free user that is taken for it, where one
-- is free; else it is dropped
abbrev pub more_answers : Users → ℕ → List Answer
more_answers users slot =
    if nat_lt users.made users.limit then GrowAndStart (users.made + 1) slot ∷ []
    else if is_some (first_of users.free) then map (λ user. TakeAndStart user slot) users.free
    else DropArrival ∷ []

-- the acts of scenario number n that its wish stands for, one for each choice of a free user
abbrev pub acts_wished : ℕ → Users → Part → Wish → List Move
acts_wished n users part Nothing = []
acts_wished n users part (Release user) = ReleaseUser n user ∷ []
acts_wished n users part (Take slot) = map (λ user. TakeUser n user slot) users.free
acts_wished n users part (Start user item until due) = start_wished (has_arrivals part.executor) n user item until due ∷ []
acts_wished n users part (More item until due slot) = map (λ answer. AnswerArrival n due item until answer) (more_answers users slot)
acts_wished n users part (Drop item due) = drop_wished (has_arrivals part.executor) n item (hard_moment part) due ∷ []
acts_wished n users part (Late item due) = AnswerArrival n due item (hard_moment part) CountLate ∷ []
acts_wished n users part Close = CloseScenario n ∷ []

-- the held user that a wish names, if it names one
abbrev pub named_user : Wish → Option ℕ
named_user (Release user) = Some user
named_user (Start user _ _ _) = Some user
named_user _ = None

-- ---- which wish is right

-- the act is one of these, and none of them is before it
pub record IsFirstOf (moves : List Move) (move : Move) : Type 0 where
  pub among : Contains moves move
  pub none_before : (other : Move) → Contains moves other → is_before (place_of other) (place_of move) ≡ false

-- each act that a wish stands for is a first one of the scenario's
abbrev pub StandsForFirst : ℕ → Users → Scenario → ℕ → Wish → Type 0
StandsForFirst n users s t wish =
    (move : Move) → Contains (acts_wished n users s.part wish) move → IsFirstOf (later_moves n users s t) move

-- the wish tells the scenario's first acts at the reading t: each act that it stands for is one of them;
-- it stands for some act, unless it is for nothing, and then there is no act; and where some wish that
-- names the preferred user stands for a first act, this one names it
pub record TellsFirst (n : ℕ) (users : Users) (s : Scenario) (t prefer : ℕ) (wish : Wish) : Type 0 where
  pub first : StandsForFirst n users s t wish
  pub something : acts_wished n users s.part wish ≡ [] → wish ≡ Nothing
  pub nothing : wish ≡ Nothing → later_moves n users s t ≡ []
  pub preferred : (other : Wish) → named_user other ≡ Some prefer → StandsForFirst n users s t other → named_user wish ≡ Some prefer

-- the wish tells the first acts of the scenario whatever its number is and whichever users the pool
-- has, where `free` says whether one is free
abbrev pub WishesFirst : Scenario → ℕ → Bool → ℕ → Wish → Type 0
WishesFirst s t free prefer wish =
    (n : ℕ) (users : Users) → is_some (first_of users.free) ≡ free → TellsFirst n users s t prefer wish
