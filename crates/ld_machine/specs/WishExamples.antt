-- Worked examples of wishes: one scenario with two arrivals in one second, of which one user plays one; and
-- two idle users, of whom one is preferred.
use Rattle.std.specs.Prelude.{◌≡◌, ℕ, false, List, [], ◌∷◌}
use Rattle.ld_base.specs.declared.wish.Wish.{Wish}
use Rattle.ld_machine.specs.Plan.{Executor, PerVuIterations, ConstantVus, RampingVus, ArrivalRate, ExternallyControlled, Part}
use Rattle.ld_machine.specs.State.{Level, Runs, Condition, Idle, HeldUser}
use Rattle.ld_machine.specs.Scenario.{Scenario}
use Rattle.ld_machine.specs.Moves.{Users}
use Rattle.ld_machine.specs.Order.{first_among}
use Rattle.ld_machine.specs.Wishes.{later_moves, acts_wished}
use Rattle.ld_machine.specs.Examples.{two_arrivals}

-- one user is allocated, and two may be held; and, of an executor without arrivals, one slot
abbrev pub rates : Executor
rates = ArrivalRate 1 2 two_arrivals

abbrev pub loops : Executor
loops = ConstantVus (0 ∷ [])

-- a scenario of one second from 0 on, with a grace of 30 seconds
abbrev pub part_with : Executor → Part
part_with how = record { begin = 0; end = 1000000000; grace = 30000000000; sample_room = 0; whole_items = 2; executor = how }

-- it holds these users, each of them under its condition and with the slot in front of its number
abbrev pub user_one : Condition → HeldUser
user_one condition = record { user = 1; slot = 0; condition = condition }

-- the scenario at this level, with these users held and these items ended
abbrev pub scenario_with : Executor → Level → List HeldUser → List ℕ → Scenario
scenario_with how level held ended =
    record {
      part = part_with how;
      share = record { level = level; closed = false; held = held; ended = ended };
      controls = record { paused = false; vus = 0; vus_max = 0 };
    }

-- the pool made one user, and may make so many; these are free
abbrev pub users_with : ℕ → List ℕ → Users
users_with limit free = record { made = 1; limit = limit; free = free }

-- the wish stands for the scenario's first acts at t, and for no others
abbrev pub Wishes : Users → Scenario → ℕ → Wish → Type 0
Wishes users s t wish = first_among (later_moves 0 users s t) ≡ acts_wished 0 users s.part wish

-- ---- users 1 and 2, idle on slots of their own

abbrev pub idle_on : ℕ → ℕ → HeldUser
idle_on user slot = record { user = user; slot = slot; condition = Idle }

-- a scenario from 0 to 10 without grace, of which user 1 has slot 0 and user 2 has slot 1
abbrev pub two_idle : Executor → Scenario
two_idle how =
    record {
      part = record { begin = 0; end = 10; grace = 0; sample_room = 0; whole_items = 2; executor = how };
      share = record { level = Runs; closed = false; held = idle_on 1 0 ∷ idle_on 2 1 ∷ []; ended = [] };
      controls = record { paused = false; vus = 2; vus_max = 2 };
    }

-- two slots, each with an item of its own; and two of which the first goes off at 4, with a ramp's grace of 3
abbrev pub two_loops : Executor
two_loops = ConstantVus (0 ∷ 1 ∷ [])

abbrev pub one_each : Executor
one_each = PerVuIterations (0 ∷ 1 ∷ []) (record { item = 0; slot = 0 } ∷ record { item = 1; slot = 1 } ∷ [])

abbrev pub two_ramps : Executor
two_ramps =
    RampingVus 3
    (record { slot = 0; intervals = record { on = 0; off = 4 } ∷ [] }
    ∷ record { slot = 1; intervals = record { on = 0; off = 10 } ∷ [] }
    ∷ [])

abbrev pub two_controlled : Executor
two_controlled = ExternallyControlled 2 2 (0 ∷ 1 ∷ [])
