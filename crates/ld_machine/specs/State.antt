-- The state of the pool: the users that were made, each scenario's share, and what was commanded.
use Rattle.std.specs.Prelude.{◌+◌, if◌then◌else◌, ℕ, Bool, true, false, not, ◌==◌, List, [], ◌∷◌, map, filter, flat_map, length}
use Rattle.std.specs.List.{list_all, list_any, range_with_len}
use Rattle.ld_machine.specs.Plan.{Executor, ExternallyControlled, Part, Plan}

-- the level of a scenario: it runs; or it starts nothing, since a stop was commanded at a reading;
-- or it is halted
pub data Level : Type 0 where
  Runs : Level
  StartsNothing : (commanded : ℕ) → Level
  Halted : Level

-- what a held user does: nothing, or an iteration that a thread started
pub data Condition : Type 0 where
  Idle : Condition
  Busy : (thread item until : ℕ) → Condition

-- a user that a scenario holds, with its slot
pub record HeldUser : Type 0 where
  pub user : ℕ
  pub slot : ℕ
  pub condition : Condition

-- one scenario's share of the state: its level, whether it is closed, the users that it holds in
-- order of their numbers, and the items that are no longer open
pub record Share : Type 0 where
  pub level : Level
  pub closed : Bool
  pub held : List HeldUser
  pub ended : List ℕ

-- the values that control commands set for an externally controlled scenario
pub record Controls : Type 0 where
  pub paused : Bool
  pub vus : ℕ
  pub vus_max : ℕ

-- the whole state: how many users were made, numbered from 1, the shares in order of the scenarios,
-- the controls, whether a stop was commanded, and how many entries and samples there are so far
pub record State : Type 0 where
  pub made : ℕ
  pub shares : List Share
  pub controls : Controls
  pub stop_commanded : Bool
  pub entries : ℕ
  pub samples : ℕ

-- a held user is idle where it does nothing, and busy where it plays an iteration
abbrev pub is_idle_condition : Condition → Bool
is_idle_condition Idle = true
is_idle_condition (Busy _ _ _) = false

abbrev pub is_busy_condition : Condition → Bool
is_busy_condition Idle = false
is_busy_condition (Busy _ _ _) = true

abbrev pub is_idle : HeldUser → Bool
is_idle h = is_idle_condition h.condition

abbrev pub is_busy : HeldUser → Bool
is_busy h = is_busy_condition h.condition

-- the users that a share holds: those that are idle, and those that are busy
abbrev pub idle_users : Share → List HeldUser
idle_users share = filter is_idle share.held

abbrev pub busy_users : Share → List HeldUser
busy_users share = filter is_busy share.held

-- how many users a share holds
abbrev pub held_count : Share → ℕ
held_count share = length share.held

-- some share holds the user
abbrev pub is_held : State → ℕ → Bool
is_held state user = list_any (λ share. list_any (λ (h : HeldUser). h.user == user) share.held) state.shares

-- the users that were made and that no share holds
abbrev pub free_users : State → List ℕ
free_users state = filter (λ user. not (is_held state user)) (range_with_len 1 state.made)

-- how many users are busy
abbrev pub busy_count : State → ℕ
busy_count state = length (flat_map busy_users state.shares)

-- every scenario is closed
abbrev pub all_closed : State → Bool
all_closed state = list_all (λ (share : Share). share.closed) state.shares

-- a share as it is at the opening
abbrev pub opening_share : Share
opening_share = record { level = Runs; closed = false; held = []; ended = [] }

-- the controls that an executor sets at the opening, where it is the externally controlled one
abbrev pub executor_controls : Executor → Controls → Controls
executor_controls (ExternallyControlled vus vus_max _) others = record { paused = false; vus = vus; vus_max = vus_max }
executor_controls _ others = others

-- the controls at the opening: those of the options of the externally controlled scenario, of which
-- there is at most one
abbrev pub opening_controls : List Part → Controls
opening_controls [] = record { paused = false; vus = 0; vus_max = 0 }
opening_controls (part ∷ parts) = executor_controls part.executor (opening_controls parts)

-- the state at the opening: the planned users are made and free, and every scenario is open
abbrev pub opening : Plan → State
opening plan =
    record {
      made = plan.planned;
      shares = map (λ part. opening_share) plan.parts;
      controls = opening_controls plan.parts;
      stop_commanded = false;
      entries = 0;
      samples = 0;
    }

-- how many times a user is among some held users
abbrev pub times_among : ℕ → List HeldUser → ℕ
times_among user [] = 0
times_among user (h ∷ rest) = (if h.user == user then 1 else 0) + times_among user rest

-- how many times a user is held by all of some shares
abbrev pub times_held : ℕ → List Share → ℕ
times_held user [] = 0
times_held user (share ∷ rest) = times_among user share.held + times_held user rest
