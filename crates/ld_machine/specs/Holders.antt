-- Who holds whom: the scenario that holds a user, and how, as the state has it.
use Rattle.std.specs.Prelude.{ℕ, ◌==◌, List, Option, map, find}
use Rattle.std.specs.List.{enumerate_from, flat_map}
use Rattle.ld_machine.specs.State.{HeldUser, Share, State}

-- the users that a share of scenario n holds, each with the scenario's number
abbrev pub held_by : ℕ → Share → List (ℕ × HeldUser)
held_by n share = map (λ (h : HeldUser). (n, h)) share.held

-- whom all scenarios hold
abbrev pub all_held : State → List (ℕ × HeldUser)
all_held state = flat_map (λ (n, share). held_by n share) (enumerate_from 0 state.shares)

-- the scenario that holds a user, and what it holds it as; None where no scenario holds it
abbrev pub holder_of : State → ℕ → Option (ℕ × HeldUser)
holder_of state user = find (λ (n, h). h.user == user) (all_held state)
