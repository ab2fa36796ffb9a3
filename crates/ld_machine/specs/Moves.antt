-- The acts that are enabled in a state at a reading: of each scenario, and of all.
use Rattle.std.specs.Prelude.{ℕ, ◌&&◌, ◌+◌, nat_lt, List, [], ◌∷◌, ◌++◌, Option, map, filter, filter_map, flat_map, is_some, option_map, option_to_list, if◌then◌else◌}
use Rattle.std.specs.List.{enumerate_from}
use Rattle.std.specs.Option.{option_map_or}
use Rattle.ld_machine.specs.Plan.{Arrival, Part, Plan, hard_moment, due_moment}
use Rattle.ld_machine.specs.State.{HeldUser, Share, Controls, State, idle_users, held_count, free_users}
use Rattle.ld_machine.specs.Scenario.{Scenario, first_of, has_ended, may_hold_more, may_stop, may_release, slots_to_take, may_take, due_arrival, item_to_start, until_of, item_to_drop, may_close}

-- what becomes of a due arrival: it is counted late; or it starts on an idle user; or on a user that
-- is grown for it, with its slot; or on a free user that is taken for it, with its slot; or it is dropped
pub data Answer : Type 0 where
  CountLate : Answer
  StartOn : (user : ℕ) → Answer
  GrowAndStart : (user slot : ℕ) → Answer
  TakeAndStart : (user slot : ℕ) → Answer
  DropArrival : Answer

-- one act of the pool, with all that it says. An arrival that takes or grows a user and starts on it
-- is one act
pub data Move : Type 0 where
  StopScenario : (scenario : ℕ) → Move
  ReleaseUser : (scenario user : ℕ) → Move
  TakeUser : (scenario user slot : ℕ) → Move
  AnswerArrival : (scenario due item until : ℕ) (answer : Answer) → Move
  StartIteration : (scenario user item until : ℕ) → Move
  DropIteration : (scenario item : ℕ) → Move
  CloseScenario : (scenario : ℕ) → Move

-- the users of the whole pool: how many were made, how many there may be, and which are free
pub record Users : Type 0 where
  pub made : ℕ
  pub limit : ℕ
  pub free : List ℕ

abbrev pub users_of : Plan → State → Users
users_of plan state = record { made = state.made; limit = plan.limit; free = free_users state }

-- what may become of an arrival that is due at t, one answer for each choice of a user
abbrev pub answers : Scenario → Users → ℕ → List Answer
answers s users t =
    if has_ended s t then CountLate ∷ []
    else if is_some (first_of (idle_users s.share)) then map (λ (h : HeldUser). StartOn h.user) (idle_users s.share)
    else if may_hold_more s && nat_lt users.made users.limit then GrowAndStart (users.made + 1) (held_count s.share) ∷ []
    else if may_hold_more s && is_some (first_of users.free) then map (λ user. TakeAndStart user (held_count s.share)) users.free
    else DropArrival ∷ []

-- ---- the enabled acts of scenario number n, kind by kind

abbrev pub stops : ℕ → Scenario → ℕ → List Move
stops n s t = if may_stop s t then StopScenario n ∷ [] else []

abbrev pub releases : ℕ → Scenario → ℕ → List Move
releases n s t =
    map (λ (h : HeldUser). ReleaseUser n h.user) (filter (λ (h : HeldUser). may_release s h.slot t) (idle_users s.share))

abbrev pub takes : ℕ → Scenario → Users → ℕ → List Move
takes n s users t =
    flat_map (λ slot. map (λ user. TakeUser n user slot) users.free)
    (filter (λ slot. may_take s slot t) (slots_to_take s.part.executor s))

abbrev pub answers_to : ℕ → Scenario → Users → ℕ → Arrival → List Move
answers_to n s users t arrival =
    map (λ answer. AnswerArrival n (due_moment s.part arrival) arrival.item (hard_moment s.part) answer) (answers s users t)

abbrev pub arrivals : ℕ → Scenario → Users → ℕ → List Move
arrivals n s users t = option_map_or (answers_to n s users t) (due_arrival s t) []

abbrev pub start_on : ℕ → Scenario → ℕ → HeldUser → Option Move
start_on n s t h =
    option_map (λ item. StartIteration n h.user item (until_of s h.slot t)) (item_to_start s h.slot t)

abbrev pub starts : ℕ → Scenario → ℕ → List Move
starts n s t = filter_map (start_on n s t) (idle_users s.share)

abbrev pub drops : ℕ → Scenario → ℕ → List Move
drops n s t = option_to_list (option_map (λ item. DropIteration n item) (item_to_drop s t))

abbrev pub closes : ℕ → Scenario → ℕ → List Move
closes n s t = if may_close s t then CloseScenario n ∷ [] else []

-- all enabled acts of scenario number n
abbrev pub moves_of : Users → ℕ → Scenario → ℕ → List Move
moves_of users n s t =
    stops n s t ++ releases n s t ++ takes n s users t ++ arrivals n s users t ++ starts n s t ++ drops n s t ++ closes n s t

-- ---- of the whole state

-- the scenarios of these parts and shares
abbrev pub scenarios_with : Controls → List Part → List Share → List Scenario
scenarios_with controls [] shares = []
scenarios_with controls (part ∷ parts) [] = []
scenarios_with controls (part ∷ parts) (share ∷ shares) =
    record { part = part; share = share; controls = controls } ∷ scenarios_with controls parts shares

-- the scenarios as they stand, in order of their numbers
abbrev pub scenarios : Plan → State → List Scenario
scenarios plan state = scenarios_with state.controls plan.parts state.shares

-- all acts that are enabled in the state at the reading t
abbrev pub enabled : Plan → State → ℕ → List Move
enabled plan state t =
    flat_map (λ (n, s). moves_of (users_of plan state) n s t) (enumerate_from 0 (scenarios plan state))
