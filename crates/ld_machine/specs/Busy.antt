-- Who is busy: what each user plays, as the state has it.
use Rattle.std.specs.Prelude.{ℕ, ◌==◌, List, Option, None, Some, filter_map, find}
use Rattle.std.specs.List.{enumerate_from, flat_map}
use Rattle.ld_base.specs.Stint.{StintView, stint_of}
use Rattle.ld_machine.specs.State.{Condition, Idle, Busy, HeldUser, Share, State}

-- the stint of a user of scenario n under this condition, with the thread that started it, if it is busy
abbrev pub stint_under : ℕ → ℕ → Condition → Option (ℕ × StintView)
stint_under n user Idle = None
stint_under n user (Busy thread item until) = Some (thread, stint_of n user item until)

-- the stints of all users that a share of scenario n holds busy
abbrev pub stints_in : ℕ → Share → List (ℕ × StintView)
stints_in n share = filter_map (λ (h : HeldUser). stint_under n h.user h.condition) share.held

-- the stints that are out, each with the thread that started it
abbrev pub stints_out : State → List (ℕ × StintView)
stints_out state = flat_map (λ (n, share). stints_in n share) (enumerate_from 0 state.shares)

-- what a user is busy with: the thread that started it, and the stint. None where the user isn't busy
abbrev pub busy_of : State → ℕ → Option (ℕ × StintView)
busy_of state user = find (λ (thread, stint). stint.user == user) (stints_out state)
