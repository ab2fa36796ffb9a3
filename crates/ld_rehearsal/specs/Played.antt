-- What was played of a rehearsal, up to a moment.
use Rattle.std.specs.Prelude.{◌≡◌, ◌<◌, ◌≤◌, ◌⊎◌, ◌&&◌, ℕ, Bool, true, false, List, [], ◌∷◌, Option, None, Some, find, IsTrue}
use Rattle.std.specs.List.{list_all}
use Rattle.std.specs.Option.{option_map_or}
use Rattle.ld_base.specs.declared.act.Act.{Act}
use Rattle.ld_base.specs.declared.act.Act.TheVariants.{Start}
use Rattle.ld_base.specs.declared.entry.Entry.{Entry}
use Rattle.ld_base.specs.declared.reply.Reply.{Reply}
use Rattle.ld_machine.specs.Plan.{Plan}
use Rattle.ld_machine.specs.State.{State, opening}
use Rattle.ld_machine.specs.Effect.{after_entry}
use Rattle.ld_machine.specs.History.{IsLegal}
use Rattle.ld_machine.specs.OnTime.{last_reading, readings_rise}
use Rattle.ld_machine.specs.Rehearsal.{is_rehearsed_entry, may_follow, returns_at, returns_first, IsFullBetween, IsRefusedBetween, NothingEnabled, WaitsBetween}
use Rattle.ld_machine.specs.Settled.{is_its_return, is_turn_of}

-- where an act is a Start, the next Start or Return of its user in these entries, if there is one yet, is its
-- Return, at the moment at which it ends
abbrev pub is_returned_so_far : ℕ → ℕ → Act → List Entry → Bool
is_returned_so_far long start (Start n user item until) rest =
    option_map_or
    (λ (entry : Entry). is_its_return n user item entry.act && returns_at long start until entry)
    (find (λ (entry : Entry). is_turn_of user entry.act) rest)
    true
is_returned_so_far long start _ rest = true

abbrev pub all_returned_so_far : ℕ → List Entry → Bool
all_returned_so_far long [] = true
all_returned_so_far long (entry ∷ rest) = is_returned_so_far long entry.reading entry.act rest && all_returned_so_far long rest

-- the entry may come behind these, as the order within one reading has it
abbrev pub may_come : List Entry → Entry → Bool
may_come [] entry = true
may_come (one ∷ []) entry = may_follow one entry
may_come (one ∷ two ∷ rest) entry = may_come (two ∷ rest) entry

-- Behind a state left at `from` entries come as waiting has it, up to and without the moment `to`. Since
-- the last of them nothing is enabled; or, where the way is blocked, something is and has no room.
abbrev pub WaitsUpTo : Plan → State → ℕ → List Entry → ℕ → Bool → Type 0
WaitsUpTo plan state from [] to false = NothingEnabled plan state from to
WaitsUpTo plan state from [] to true = IsFullBetween plan state from to
WaitsUpTo plan state from (entry ∷ rest) to blocked =
    (from < entry.reading → WaitsBetween plan state from entry) × WaitsUpTo plan (after_entry plan state entry) entry.reading rest to blocked

-- the same of a whole history: before its first entry nothing is enabled
abbrev pub WaitsSoFar : Plan → List Entry → ℕ → Bool → Type 0
WaitsSoFar plan [] to blocked = WaitsUpTo plan (opening plan) 0 [] to blocked
WaitsSoFar plan (entry ∷ rest) to blocked =
    NothingEnabled plan (opening plan) 0 entry.reading × WaitsUpTo plan (after_entry plan (opening plan) entry) entry.reading rest to blocked

-- the first place at which a first act has no room, up to and without the moment `to`, and what says so
abbrev pub RefusalUpTo : Plan → State → ℕ → List Entry → ℕ → Option Reply → Type 0
RefusalUpTo plan state from [] to None = NothingEnabled plan state from to
RefusalUpTo plan state from [] to (Some refusal) = IsRefusedBetween plan state from to refusal
RefusalUpTo plan state from (entry ∷ rest) to first =
    (NothingEnabled plan state from entry.reading × RefusalUpTo plan (after_entry plan state entry) entry.reading rest to first)
    ⊎ ((refusal : Reply) × (first ≡ Some refusal) × IsRefusedBetween plan state from entry.reading refusal)

-- The history is what a rehearsal with iterations of the length `long` played up to and without the moment
-- `to`, with the first act without room.
pub record IsPlayed (plan : Plan) (long : ℕ) (history : List Entry) (to : ℕ) (first : Option Reply) (blocked : Bool) : Type 0 where
  pub legal : IsLegal plan history
  pub entries : IsTrue (list_all is_rehearsed_entry history)
  pub readings : IsTrue (readings_rise 0 history)
  pub past : last_reading 0 history ≤ to
  pub returned : IsTrue (all_returned_so_far long history)
  pub order : IsTrue (returns_first history)
  pub waits : WaitsSoFar plan history to blocked
  pub refusal : RefusalUpTo plan (opening plan) 0 history to first
