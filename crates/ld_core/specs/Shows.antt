-- Which state of the machine the parts of a core show.
use Rattle.std.specs.Prelude.{◌≡◌, ◌≤◌, ◌+◌, ℕ, Bool, List, Option, Some, false, length, map, slice_get}
use Rattle.std.specs.List.{range_with_len}
use Rattle.std.specs.Option.{option_map_or}
use Rattle.ld_machine.specs.Holders.{holder_of}
use Rattle.ld_machine.specs.Moves.{scenarios}
use Rattle.ld_machine.specs.Plan.{Plan, is_external}
use Rattle.ld_machine.specs.Room.{busy_room}
use Rattle.ld_machine.specs.Scenario.{Scenario}
use Rattle.ld_machine.specs.State.{Condition, Idle, Busy, HeldUser, State, busy_count}
use Rattle.ld_machine.specs.Together.{WellHeld}
use Rattle.ld_pool.specs.Pool.{PoolView}
use Rattle.ld_pool.specs.Users as pools
use Rattle.ld_pool.specs.declared.user.User.{User}
use Rattle.ld_pool.specs.declared.user.User.TheVariants as users
use Rattle.ld_executor.specs.Shows as executors
use Rattle.ld_executor.specs.declared.executor_state.ExecutorState.{ExecutorState}

-- what a pool says of a user that scenario n holds under this condition
abbrev pub condition_user : ℕ → Condition → User
condition_user n Idle = users.Idle n
condition_user n (Busy thread item until) = users.Busy (record { thread = thread; scenario = n; item = item; until = until })

abbrev pub held_user : ℕ × HeldUser → User
held_user p = condition_user p.0 p.1.condition

-- what it says of a user with this holder, if with any
abbrev pub user_held : Option (ℕ × HeldUser) → User
user_held holder = option_map_or held_user holder users.Free

-- what it says of a user of a state
abbrev pub user_of : State → ℕ → User
user_of state user = user_held (holder_of state user)

-- the kept states show these scenarios, one for each
pub record AllShow (kept : List ExecutorState) (shown : List Scenario) : Type 0 where
  pub count : length kept ≡ length shown
  pub each : (n : ℕ) (k : ExecutorState) (s : Scenario) → slice_get kept n ≡ Some k → slice_get shown n ≡ Some s → executors.Shows k s

-- The parts of a core show a state: each kept state shows its scenario, and the pool says what each made user is
-- and plays, and so how many are busy. A history that returns what is out now has room, with as many samples as
-- the scripts may give. No scenario is externally controlled.
pub record Shows (plan : Plan) (pool : PoolView) (kept : List ExecutorState) (stopped : Bool) (state : State) : Type 0 where
  pub count : length plan.parts ≡ length state.shares
  pub scenarios : AllShow kept (scenarios plan state)
  pub well : WellHeld state
  pub made : state.made ≤ plan.limit
  pub limit : pool.limit ≡ plan.limit
  pub users : pool.users ≡ map (user_of state) (range_with_len 1 state.made)
  pub busy : pools.busy_count pool.users ≡ busy_count state
  pub stop : stopped ≡ state.stop_commanded
  pub controls : state.controls ≡ record { paused = false; vus = 0; vus_max = 0 }
  pub room : state.entries + busy_count state ≤ plan.entry_limit
  pub sample_room : state.samples + busy_room plan state ≤ plan.entry_limit

-- the scenarios' states show all scenarios of a plan before anything was done
pub record ShowOpenings (plan : Plan) (kept : List ExecutorState) : Type 0 where
  pub count : length kept ≡ length plan.parts
  pub each : (n : ℕ) (k : ExecutorState) → slice_get kept n ≡ Some k → executors.ShowsOpening plan n k
