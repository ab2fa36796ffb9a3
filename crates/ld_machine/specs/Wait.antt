-- Waiting: the moment up to which nothing can become enabled by the clock alone.
use Rattle.std.specs.Prelude.{ℕ, Bool, ◌&&◌, nat_lt, List, [], ◌∷◌, ◌++◌, filter, filter_map, flat_map, min, Option, None, Some, option_map, option_to_list, unwrap_or, if◌then◌else◌}
use Rattle.std.specs.List.{list_any}
use Rattle.std.specs.Option.{option_map_or}
use Rattle.ld_machine.specs.Moment.{moment_after}
use Rattle.ld_machine.specs.Plan.{Interval, RampingSlot, Executor, RampingVus, Part, Plan, is_external, on_moment, off_moment, due_moment}
use Rattle.ld_machine.specs.State.{Level, Runs, StartsNothing, Halted, Condition, Idle, Busy, HeldUser, Share, State}
use Rattle.ld_machine.specs.Scenario.{Scenario, is_open, least_open_arrival}
use Rattle.ld_machine.specs.Moves.{scenarios}

-- the on and off moments of an interval
abbrev pub interval_moments : Part → Interval → List ℕ
interval_moments part interval = on_moment part interval ∷ off_moment part interval ∷ []

-- every on and off moment of the owned slots of `ramping-vus`
abbrev pub ramping_moments : Executor → Part → List ℕ
ramping_moments (RampingVus _ slots) part = flat_map (λ (r : RampingSlot). flat_map (interval_moments part) r.intervals) slots
ramping_moments _ part = []

-- the moments at which the clock may change what a scenario may do, by its level: at level 0 its
-- begin, its end, the moment of its least open arrival and those of its slots; at level 1 the end of
-- its grace since the stop was commanded
abbrev pub level_moments : Level → Scenario → List ℕ
level_moments Runs s =
    s.part.begin ∷ s.part.end ∷ option_to_list (option_map (due_moment s.part) (least_open_arrival s))
    ++ ramping_moments s.part.executor s.part
level_moments (StartsNothing commanded) s = moment_after commanded s.part.grace ∷ []
level_moments Halted s = []

-- the candidates of one scenario: of an open one those of its level
abbrev pub scenario_moments : Scenario → List ℕ
scenario_moments s = if is_open s then level_moments s.share.level s else []

-- until when a busy user's iteration may last
abbrev pub busy_until : Condition → Option ℕ
busy_until Idle = None
busy_until (Busy _ _ until) = Some until

abbrev pub untils : Share → List ℕ
untils share = filter_map (λ (h : HeldUser). busy_until h.condition) share.held

-- the candidates: those of each scenario, and the `until` of each busy user
abbrev pub candidates : Plan → State → List ℕ
candidates plan state = flat_map scenario_moments (scenarios plan state) ++ flat_map untils state.shares

-- the least of some moments
abbrev pub least_of : List ℕ → Option ℕ
least_of [] = None
least_of (m ∷ rest) = Some (option_map_or (min m) (least_of rest) m)

-- the least candidate above t
abbrev pub next_candidate : Plan → State → ℕ → Option ℕ
next_candidate plan state t = least_of (filter (nat_lt t) (candidates plan state))

-- how long a wait may last where nothing says how long: 20 milliseconds
abbrev pub short_wait : ℕ
short_wait = 20000000

-- some externally controlled scenario is open
abbrev pub is_external_open : Plan → State → Bool
is_external_open plan state = list_any (λ s. is_open s && is_external s.part.executor) (scenarios plan state)

-- the moment to wait for at t: the next candidate; a short wait where there is none; and no longer
-- than a short wait while an externally controlled scenario is open
abbrev pub wait_moment : Plan → State → ℕ → ℕ
wait_moment plan state t =
    if is_external_open plan state
    then option_map_or (min (moment_after t short_wait)) (next_candidate plan state t) (moment_after t short_wait)
    else unwrap_or (next_candidate plan state t) (moment_after t short_wait)
