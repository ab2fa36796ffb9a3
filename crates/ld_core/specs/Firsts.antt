-- First acts of a core.
use Rattle.std.specs.Prelude.{◌≡◌, ◌≢◌, ◌<◌, ◌&&◌, ◌||◌, ◌==◌, nat_lt, ℕ, Bool, List, [], ◌∷◌, Option, None, Some, false, Contains, IsTrue, slice_get, if◌then◌else◌}
use Rattle.ld_base.specs.declared.wish.Wish.{Wish}
use Rattle.ld_base.specs.declared.wish.Wish.TheVariants.{Nothing, Release, Take, Start, More, Drop, Late, Close}
use Rattle.ld_machine.specs.Moves.{Answer, TakeAndStart, Move, AnswerArrival, StopScenario, TakeUser, Users, moves_of, scenarios, users_of}
use Rattle.ld_machine.specs.Order.{first_moves}
use Rattle.ld_machine.specs.Plan.{Executor, Part}
use Rattle.ld_machine.specs.State.{all_closed, free_users}
use Rattle.ld_machine.specs.Scenario.{Scenario}
use Rattle.ld_machine.specs.Told.{executor_has_place}
use Rattle.ld_machine.specs.Together.{IsFirstActOf, IsFirstBelow}
use Rattle.ld_machine.specs.Wishes.{acts_wished, drop_wished, has_arrivals, start_wished}
use Rattle.ld_core.specs.CoreView.{CoreView, plan_of, state_of}
use Rattle.ld_core.specs.declared.first.First.{First}
use Rattle.ld_core.specs.declared.first.Next.{Next}
use Rattle.ld_core.specs.declared.first.Next.TheVariants.{Halt, Wished}

-- the act is a first one at the reading, and some scenario is open
pub record IsFirst (core : CoreView) (reading : ℕ) (move : Move) : Type 0 where
  pub goes_on : all_closed (state_of core) ≡ false
  pub first : Contains (first_moves (plan_of core) (state_of core) reading) move

-- to start the item of scenario n on the user is, whether or not it is an arrival
abbrev pub IsFirstStart : CoreView → ℕ → ℕ → ℕ → ℕ → ℕ → Type 0
IsFirstStart core reading n user item until =
    (arrivals : Bool) × (due : ℕ) × IsFirst core reading (start_wished arrivals n user item until due)

-- to drop the item is
abbrev pub IsFirstDrop : CoreView → ℕ → ℕ → ℕ → Type 0
IsFirstDrop core reading n item = (arrivals : Bool) × (until : ℕ) × (due : ℕ) × IsFirst core reading (drop_wished arrivals n item until due)

-- this answer to the arrival of an item of scenario n is
abbrev pub IsFirstAnswer : CoreView → ℕ → ℕ → ℕ → ℕ → Answer → Type 0
IsFirstAnswer core reading n item until answer = (due : ℕ) × IsFirst core reading (AnswerArrival n due item until answer)

-- a user is free, and to take any free one for the slot of scenario n is a first act
pub record IsFirstTake (core : CoreView) (reading n slot : ℕ) : Type 0 where
  pub some : free_users (state_of core) ≢ []
  pub each : (user : ℕ) → Contains (free_users (state_of core)) user → IsFirst core reading (TakeUser n user slot)

-- a user is free, and to take any free one for the slot of scenario n and to start the item on it is a first act
pub record IsFirstTakeFor (core : CoreView) (reading n item until slot : ℕ) : Type 0 where
  pub due : ℕ
  pub some : free_users (state_of core) ≢ []
  pub each : (user : ℕ) → Contains (free_users (state_of core)) user →
      IsFirst core reading (AnswerArrival n due item until (TakeAndStart user slot))

-- ---- what scenarios would do next

-- the acts that this stands for of scenario n, one for each choice of a free user
abbrev pub acts_next : ℕ → Users → Part → Next → List Move
acts_next n users part Halt = StopScenario n ∷ []
acts_next n users part (Wished wish arrivals) = acts_wished n users part wish

-- it says rightly whether the scenario has arrivals
abbrev pub SaysKind : Executor → Next → Type 0
SaysKind executor Halt = Unit {0}
SaysKind executor (Wished wish arrivals) = arrivals ≡ has_arrivals executor

-- its rank in the order of acts
abbrev pub rank_wished : Wish → Bool → ℕ
rank_wished (Release user) arrivals = 2
rank_wished (Take slot) arrivals = 3
rank_wished (Start user item until due) arrivals = if arrivals then 4 else 5
rank_wished (More item until due slot) arrivals = 4
rank_wished (Drop item due) arrivals = if arrivals then 4 else 6
rank_wished (Late item due) arrivals = 4
rank_wished Close arrivals = 7
rank_wished Nothing arrivals = 8

abbrev pub rank_of : Next → ℕ
rank_of Halt = 1
rank_of (Wished wish arrivals) = rank_wished wish arrivals

-- the moment at which the arrival that it answers is due, and 0 where it answers none
abbrev pub due_wished : Wish → Bool → ℕ
due_wished (Start user item until due) arrivals = if arrivals then due else 0
due_wished (More item until due slot) arrivals = due
due_wished (Drop item due) arrivals = if arrivals then due else 0
due_wished (Late item due) arrivals = due
due_wished _ arrivals = 0

abbrev pub due_of : Next → ℕ
due_of Halt = 0
due_of (Wished wish arrivals) = due_wished wish arrivals

-- what a scenario would do comes before what one of a lower number would
abbrev pub comes_before : Next → Next → Bool
comes_before next other = nat_lt (rank_of next) (rank_of other) || ((rank_of next == rank_of other) && nat_lt (due_of next) (due_of other))

-- the one of two that comes first, of which the other is of a higher number
abbrev pub earlier : Option First → First → First
earlier None other = other
earlier (Some first) other = if comes_before other.next first.next then other else first

-- Scenario n would do this next, and this is said of each act that it stands for: it stands for some act; and where a user is to be taken, there is a place for it.
pub record Tells (core : CoreView) (n : ℕ) (next : Next) (Says : Move → Type 0) : Type 0 where
  pub s : Scenario
  pub stands : slice_get (scenarios (plan_of core) (state_of core)) n ≡ Some s
  pub kind : SaysKind s.part.executor next
  pub says : (m : Move) → Contains (acts_next n (users_of (plan_of core) (state_of core)) s.part next) m → Says m
  pub some : (m : Move) × Contains (acts_next n (users_of (plan_of core) (state_of core)) s.part next) m
  pub place : (slot : ℕ) (arrivals : Bool) → next ≡ Wished (Take slot) arrivals → IsTrue (executor_has_place s.part.executor s slot)

-- each act that it stands for is a first one of the scenario
abbrev pub TellsNext : CoreView → ℕ → ℕ → Next → Type 0
TellsNext core reading n next = Tells core n next (IsFirstActOf (plan_of core) (state_of core) reading n)

-- each is a first one of the scenarios of the numbers below k
abbrev pub TellsBelow : CoreView → ℕ → ℕ → First → Type 0
TellsBelow core reading k first =
    (first.scenario < k) × Tells core first.scenario first.next (IsFirstBelow (plan_of core) (state_of core) reading k)

-- each is a first act of all
abbrev pub IsFirstNext : CoreView → ℕ → ℕ → Next → Type 0
IsFirstNext core reading n next = Tells core n next (IsFirst core reading)

abbrev pub ComesFirst : CoreView → ℕ → First → Type 0
ComesFirst core reading first = IsFirstNext core reading first.scenario first.next

-- scenario n may perform no act
abbrev pub NoneNext : CoreView → ℕ → ℕ → Type 0
NoneNext core reading n =
    (s : Scenario) → slice_get (scenarios (plan_of core) (state_of core)) n ≡ Some s → moves_of (users_of (plan_of core) (state_of core)) n s reading ≡ []
