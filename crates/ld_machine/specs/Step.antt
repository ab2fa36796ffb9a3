-- A step: what an ask of a thread may give at a reading.
use Rattle.std.specs.Prelude.{ℕ, Bool, true, false, ◌&&◌, ◌+◌, ◌==◌, nat_le, List, [], ◌∷◌, map, Contains, slice_get, if◌then◌else◌}
use Rattle.std.specs.List.{list_any}
use Rattle.std.specs.Option.{option_map_or}
use Rattle.ld_base.specs.Stint.{StintView}
use Rattle.ld_base.specs.Tally.{TallyView}
use Rattle.ld_base.specs.declared.act.Act.{Act}
use Rattle.ld_base.specs.declared.act.Act.TheVariants as acts
use Rattle.ld_base.specs.declared.act.Outcome.{Outcome}
use Rattle.ld_base.specs.declared.act.Outcome.TheVariants.{Done, Interrupted}
use Rattle.ld_base.specs.declared.ask.Ask.{Ask}
use Rattle.ld_base.specs.declared.ask.Ask.TheVariants as asks
use Rattle.ld_base.specs.declared.command.Command.{Command}
use Rattle.ld_base.specs.declared.entry.Entry.{Entry}
use Rattle.ld_base.specs.declared.reply.Reply.{Reply}
use Rattle.ld_base.specs.declared.reply.Reply.TheVariants.{Noted, Denied, Go, Halt, Alive, Wait, Over}
use Rattle.ld_machine.specs.Plan.{Plan}
use Rattle.ld_machine.specs.State.{Level, Halted, Condition, Idle, Busy, HeldUser, Share, State, all_closed}
use Rattle.ld_machine.specs.Moves.{Move}
use Rattle.ld_machine.specs.Order.{first_moves}
use Rattle.ld_machine.specs.Acts.{acts_of}
use Rattle.ld_machine.specs.Replies.{reply_to}
use Rattle.ld_machine.specs.Room.{entries_refusal, room_refusal, script_room}
use Rattle.ld_machine.specs.Wait.{wait_moment}
use Rattle.ld_machine.specs.Commands.{is_denied}
use Rattle.ld_machine.specs.Effect.{after_entries}
use Rattle.ld_machine.specs.Samples.{tally_fits}

-- what a step gives: its reply, its entries and the state behind it
pub record Result : Type 0 where
  pub reply : Reply
  pub entries : List Entry
  pub state : State

-- the entries of acts of one step, of which the first is the turn `at`
abbrev pub entries_of : ℕ → ℕ → ℕ → List Act → List Entry
entries_of at thread t [] = []
entries_of at thread t (act ∷ rest) =
    record { turn = at; thread = thread; act = act; reading = t } ∷ entries_of (at + 1) thread t rest

-- a reply without an entry
abbrev pub answered : State → Reply → Result
answered state reply = record { reply = reply; entries = []; state = state }

-- a reply with these entries, and the state behind them
abbrev pub recorded : Plan → State → Reply → List Entry → Result
recorded plan state reply entries = record { reply = reply; entries = entries; state = after_entries plan state entries }

-- a reply with the entries of these acts; turns count from 1
abbrev pub performed : Plan → State → ℕ → ℕ → Reply → List Act → Result
performed plan state thread t reply acts =
    recorded plan state reply (entries_of (state.entries + 1) thread t acts)

-- ---- Act

-- what a first act gives: it is refused for want of room, or performed
abbrev pub move_result : Plan → State → ℕ → ℕ → Move → Result
move_result plan state thread t move =
    option_map_or (answered state) (room_refusal plan state move) (performed plan state thread t (reply_to move) (acts_of move))

-- the first acts, each with what it gives; a wait where there is none
abbrev pub open_results : Plan → State → ℕ → ℕ → List Move → List Result
open_results plan state thread t [] = answered state (Wait (wait_moment plan state t)) ∷ []
open_results plan state thread t (move ∷ rest) = map (move_result plan state thread t) (move ∷ rest)

-- an ask for an act: `Over` where every scenario is closed, else a first act or a wait
abbrev pub act_results : Plan → State → ℕ → ℕ → List Result
act_results plan state thread t =
    if all_closed state then answered state Over ∷ [] else open_results plan state thread t (first_moves plan state t)

-- ---- Return

abbrev pub is_busy_with : Condition → ℕ → ℕ → ℕ → Bool
is_busy_with Idle thread item until = false
is_busy_with (Busy thread' item' until') thread item until = (thread' == thread) && (item' == item) && (until' == until)

-- the stint is out at the thread: its user is busy with this thread and with the stint's scenario, item and until
abbrev pub is_out : State → ℕ → StintView → Bool
is_out state thread stint =
    option_map_or
    (λ (share : Share). list_any (λ (h : HeldUser). (h.user == stint.user) && is_busy_with h.condition thread stint.item stint.until) share.held)
    (slice_get state.shares stint.scenario)
    false

-- an iteration is done where its script finished no later than `until`
abbrev pub outcome_of : Bool → ℕ → ℕ → Outcome
outcome_of finished t until = if finished && nat_le t until then Done else Interrupted

-- the act of a Return
abbrev pub return_of : StintView → Outcome → TallyView → Act
return_of stint outcome tally = acts.Return stint.scenario stint.user stint.item outcome tally

-- a Return of a stint that is out, with a tally that fits its script, is noted; no other may be asked
abbrev pub return_results : Plan → State → ℕ → ℕ → StintView → Bool → TallyView → List Result
return_results plan state thread t stint finished tally =
    if is_out state thread stint && tally_fits plan.names (script_room plan stint.scenario) tally
    then performed plan state thread t Noted (return_of stint (outcome_of finished t stint.until) tally ∷ []) ∷ []
    else []

-- ---- Check, Look and Control

abbrev pub level_halts : Level → Bool
level_halts Halted = true
level_halts _ = false

-- whether iterations of a share go on
abbrev pub check_reply : Share → Reply
check_reply share = if level_halts share.level then Halt else Go

-- a Check of a scenario of the plan; no other may be asked
abbrev pub check_results : State → ℕ → List Result
check_results state n = option_map_or (λ share. answered state (check_reply share) ∷ []) (slice_get state.shares n) []

-- how the run stands
abbrev pub look_reply : State → Reply
look_reply state =
    if all_closed state
    then Over
    else Alive state.controls.paused state.stop_commanded state.controls.vus state.controls.vus_max

-- a command is denied, or has no room for its entry, or is noted
abbrev pub control_result : Plan → State → ℕ → ℕ → Command → Result
control_result plan state thread t command =
    if is_denied plan state command
    then answered state Denied
    else option_map_or (answered state) (entries_refusal plan state 1 0)
    (performed plan state thread t Noted (acts.Control command ∷ []))

-- ---- all asks

-- what an ask of a thread may give in a state at the reading t, one result for each choice of a user;
-- none where the ask may not be made
abbrev pub results : Plan → State → ℕ → Ask → ℕ → List Result
results plan state thread asks.Act t = act_results plan state thread t
results plan state thread (asks.Return stint finished tally) t = return_results plan state thread t stint finished tally
results plan state thread (asks.Check n) t = check_results state n
results plan state thread asks.Look t = answered state (look_reply state) ∷ []
results plan state thread (asks.Control command) t = control_result plan state thread t command ∷ []

-- in the state the ask of a thread at the reading t may give this result
abbrev pub IsStep : Plan → State → ℕ → Ask → ℕ → Result → Type 0
IsStep plan state thread ask t result = Contains (results plan state thread ask t) result

-- the replies that the ask of a thread at the reading t may have
abbrev pub replies : Plan → State → ℕ → Ask → ℕ → List Reply
replies plan state thread ask t = map (λ (r : Result). r.reply) (results plan state thread ask t)
