-- Room: whether a history has place left for an act, its iterations under way counted in.
use Rattle.std.specs.Prelude.{ℕ, ◌+◌, ◌*◌, nat_lt, length, Option, None, Some, sum_by, slice_get, if◌then◌else◌}
use Rattle.std.specs.Option.{option_map_or}
use Rattle.ld_base.specs.declared.reply.Reply.{Reply}
use Rattle.ld_base.specs.declared.reply.Reply.TheVariants.{Full}
use Rattle.ld_base.specs.declared.reply.Room.TheVariants.{Entries, Samples}
use Rattle.ld_machine.specs.Plan.{Part, Plan}
use Rattle.ld_machine.specs.State.{State, busy_users, busy_count}
use Rattle.ld_machine.specs.Scenario.{Scenario}
use Rattle.ld_machine.specs.Moves.{Move, scenarios}
use Rattle.ld_machine.specs.Acts.{added_entries, made_busy, scenario_of}

-- the entries that there are if so many are added and so many more users are busy, each busy user's
-- Return counted in
abbrev pub entries_with : State → ℕ → ℕ → ℕ
entries_with state added busy = state.entries + busy_count state + added + busy

-- the sample room of a scenario's script
abbrev pub script_room : Plan → ℕ → ℕ
script_room plan n = option_map_or (λ (part : Part). part.sample_room) (slice_get plan.parts n) 0

-- the sample room of all busy users' scripts
abbrev pub busy_room : Plan → State → ℕ
busy_room plan state = sum_by (λ (s : Scenario). length (busy_users s.share) * s.part.sample_room) (scenarios plan state)

-- the samples that there are if an iteration of scenario n is started, room for all of each script counted in
abbrev pub samples_with : Plan → State → ℕ → ℕ
samples_with plan state n = state.samples + busy_room plan state + script_room plan n

-- why the history has no room for so many entries and busy users more, if it has none
abbrev pub entries_refusal : Plan → State → ℕ → ℕ → Option Reply
entries_refusal plan state added busy =
    if nat_lt plan.entry_limit (entries_with state added busy)
    then Some (Full Entries (entries_with state added busy) plan.entry_limit)
    else None

-- why it has no room for the samples of an iteration of scenario n, if it has none
abbrev pub samples_refusal : Plan → State → ℕ → Option Reply
samples_refusal plan state n =
    if nat_lt plan.entry_limit (samples_with plan state n)
    then Some (Full Samples (samples_with plan state n) plan.entry_limit)
    else None

-- the first, or else the second
abbrev pub or_else : Option Reply → Option Reply → Option Reply
or_else None other = other
or_else (Some reply) other = Some reply

-- why there is no room for an act, if there is none: the entries are looked at first, and the
-- samples where it starts an iteration
abbrev pub room_refusal : Plan → State → Move → Option Reply
room_refusal plan state move =
    or_else (entries_refusal plan state (added_entries move) (made_busy move))
    (if nat_lt 0 (made_busy move) then samples_refusal plan state (scenario_of move) else None)
