-- Rehearsed histories: what one thread plays in virtual time, with iterations of one length.
use Rattle.std.specs.Prelude.{◌≡◌, ℕ, ◌<◌, ◌≤◌, ◌⊎◌, Bool, true, false, not, ◌&&◌, ◌||◌, ◌==◌, nat_le, nat_lt, List, [], ◌∷◌, Option, None, Some, Contains, min, find, IsTrue, length}
use Rattle.std.specs.List.{list_all}
use Rattle.std.specs.Option.{option_map_or}
use Rattle.ld_base.specs.declared.act.Act.{Act}
use Rattle.ld_base.specs.declared.act.Act.TheVariants.{Start, Late, Return, Control}
use Rattle.ld_base.specs.declared.entry.Entry.{Entry}
use Rattle.ld_base.specs.declared.reply.Reply.{Reply}
use Rattle.ld_machine.specs.Moment.{moment_after}
use Rattle.ld_machine.specs.Plan.{Plan}
use Rattle.ld_machine.specs.State.{State, opening}
use Rattle.ld_machine.specs.Moves.{Move, enabled}
use Rattle.ld_machine.specs.Order.{first_moves}
use Rattle.ld_machine.specs.Room.{room_refusal}
use Rattle.ld_machine.specs.Effect.{after_entry}
use Rattle.ld_machine.specs.Same.{same_bool}
use Rattle.ld_machine.specs.History.{is_done, IsLegal}
use Rattle.ld_machine.specs.Settled.{is_its_return, is_turn_of}
use Rattle.ld_machine.specs.OnTime.{readings_rise}

-- ---- the entries

abbrev pub is_return : Act → Bool
is_return (Return _ _ _ _ _) = true
is_return _ = false

-- an act that a rehearsal may have: no command, and a Return only with an empty tally
abbrev pub is_rehearsed_act : Act → Bool
is_rehearsed_act (Return _ _ _ _ tally) = length tally.samples == 0
is_rehearsed_act (Control _) = false
is_rehearsed_act _ = true

-- an entry of thread 0
abbrev pub is_rehearsed_entry : Entry → Bool
is_rehearsed_entry entry = (entry.thread == 0) && is_rehearsed_act entry.act

-- ---- the returns

-- an act is a Return, done exactly where the test holds
abbrev pub is_done_as : Act → Bool → Bool
is_done_as (Return _ _ _ outcome _) done = same_bool (is_done outcome) done
is_done_as _ done = false

-- an entry is at the end of an iteration that began at `start` with this `until`, where iterations
-- have the length `long`: at the least of both moments, and done where the whole length fits
abbrev pub returns_at : ℕ → ℕ → ℕ → Entry → Bool
returns_at long start until entry =
    (entry.reading == min (moment_after start long) until) && is_done_as entry.act (nat_le (moment_after start long) until)

-- where an act is a Start at the reading `start`, the next Start or Return of its user in these
-- entries is its Return, at the least of `start` plus `long` and its `until`
abbrev pub is_returned_at : ℕ → ℕ → Act → List Entry → Bool
is_returned_at long start (Start n user item until) rest =
    option_map_or
    (λ (entry : Entry). is_its_return n user item entry.act && returns_at long start until entry)
    (find (λ (entry : Entry). is_turn_of user entry.act) rest)
    false
is_returned_at long start _ rest = true

-- each Start has its Return at exactly that moment
abbrev pub all_returned_at : ℕ → List Entry → Bool
all_returned_at long [] = true
all_returned_at long (entry ∷ rest) = is_returned_at long entry.reading entry.act rest && all_returned_at long rest

-- ---- the order within one reading

-- the user of a Return
abbrev pub returned_user : Act → ℕ
returned_user (Return _ user _ _ _) = user
returned_user _ = 0

-- a Return directly behind another entry of the same reading is behind a Return of a smaller user
abbrev pub may_follow : Entry → Entry → Bool
may_follow one two =
    not (one.reading == two.reading) || not (is_return two.act)
    || (is_return one.act && nat_lt (returned_user one.act) (returned_user two.act))

-- among entries of one reading the Returns come first, in order of users
abbrev pub returns_first : List Entry → Bool
returns_first [] = true
returns_first (one ∷ []) = true
returns_first (one ∷ two ∷ rest) = may_follow one two && returns_first (two ∷ rest)

-- ---- the moments between entries

-- no act is enabled at any moment from `from` up to and without `to`
abbrev pub NothingEnabled : Plan → State → ℕ → ℕ → Type 0
NothingEnabled plan state from to = (t : ℕ) → from ≤ t → t < to → enabled plan state t ≡ []

-- no act is enabled at any moment from `from` on
abbrev pub NothingEnabledFrom : Plan → State → ℕ → Type 0
NothingEnabledFrom plan state from = (t : ℕ) → from ≤ t → enabled plan state t ≡ []

-- at the moment t a first act has no room, and this reply says so
abbrev pub IsRefusedAt : Plan → State → ℕ → Reply → Type 0
IsRefusedAt plan state t refusal =
    (move : Move) × Contains (first_moves plan state t) move × (room_refusal plan state move ≡ Some refusal)

-- an act is enabled at some moment from `from` up to and without `to`, and at the first such moment the
-- first act has no room, as this reply says
abbrev pub IsRefusedBetween : Plan → State → ℕ → ℕ → Reply → Type 0
IsRefusedBetween plan state from to refusal =
    (t : ℕ) × (from ≤ t) × (t < to) × NothingEnabled plan state from t × IsRefusedAt plan state t refusal

-- the same from `from` on
abbrev pub IsRefusedFrom : Plan → State → ℕ → Reply → Type 0
IsRefusedFrom plan state from refusal = (t : ℕ) × (from ≤ t) × NothingEnabled plan state from t × IsRefusedAt plan state t refusal

-- the same with some reply
abbrev pub IsFullBetween : Plan → State → ℕ → ℕ → Type 0
IsFullBetween plan state from to = (refusal : Reply) × IsRefusedBetween plan state from to refusal

abbrev pub IsFullFrom : Plan → State → ℕ → Type 0
IsFullFrom plan state from = (refusal : Reply) × IsRefusedFrom plan state from refusal

-- from one entry's reading up to the next one's, where that is later: nothing is enabled, or there is
-- no room for what is and the next entry is a Return
abbrev pub WaitsBetween : Plan → State → ℕ → Entry → Type 0
WaitsBetween plan state from next =
    NothingEnabled plan state from next.reading
    ⊎ (IsFullBetween plan state from next.reading × IsTrue (is_return next.act))

-- the same behind the last entry
abbrev pub WaitsBehind : Plan → State → ℕ → Type 0
WaitsBehind plan state from = NothingEnabledFrom plan state from ⊎ IsFullFrom plan state from

-- the entries behind one at the reading `from`, which left this state, come as waiting has it
abbrev pub WaitsFrom : Plan → State → ℕ → List Entry → Type 0
WaitsFrom plan state from [] = WaitsBehind plan state from
WaitsFrom plan state from (entry ∷ rest) =
    (from < entry.reading → WaitsBetween plan state from entry) × WaitsFrom plan (after_entry plan state entry) entry.reading rest

-- a history comes as waiting has it: nothing is enabled before its first entry; and an empty one is
-- what waiting from the moment 0 gives
abbrev pub Waits : Plan → List Entry → Type 0
Waits plan [] = WaitsBehind plan (opening plan) 0
Waits plan (entry ∷ rest) =
    NothingEnabled plan (opening plan) 0 entry.reading × WaitsFrom plan (after_entry plan (opening plan) entry) entry.reading rest

-- the history is one that a rehearsal with iterations of the length `long` plays
pub record IsRehearsed (plan : Plan) (long : ℕ) (history : List Entry) : Type 0 where
  pub legal : IsLegal plan history
  pub entries : IsTrue (list_all is_rehearsed_entry history)
  pub readings : IsTrue (readings_rise 0 history)
  pub returned : IsTrue (all_returned_at long history)
  pub order : IsTrue (returns_first history)
  pub waits : Waits plan history

-- ---- the first act without room

-- The first place in these entries, and behind them, at which a first act has no room, and what says so.
-- None where there is no such place.
abbrev pub FirstRefusalFrom : Plan → State → ℕ → List Entry → Option Reply → Type 0
FirstRefusalFrom plan state from [] None = NothingEnabledFrom plan state from
FirstRefusalFrom plan state from [] (Some refusal) = IsRefusedFrom plan state from refusal
FirstRefusalFrom plan state from (entry ∷ rest) first =
    (NothingEnabled plan state from entry.reading × FirstRefusalFrom plan (after_entry plan state entry) entry.reading rest first)
    ⊎ ((refusal : Reply) × (first ≡ Some refusal) × IsRefusedBetween plan state from entry.reading refusal)

-- the first place in a whole history
abbrev pub FirstRefusal : Plan → List Entry → Option Reply → Type 0
FirstRefusal plan history first = FirstRefusalFrom plan (opening plan) 0 history first

-- ---- lateness

abbrev pub is_late : Act → Bool
is_late (Late _ _) = true
is_late _ = false

-- no arrival is counted late
abbrev pub nothing_late : List Entry → Bool
nothing_late history = list_all (λ (entry : Entry). not (is_late entry.act)) history
