-- Who plays: what a user began with its last turn and has not ended.
use Rattle.std.specs.Prelude.{◌≡◌, ◌==◌, ◌+◌, ◌≤◌, ℕ, List, [], ◌∷◌, Option, None, Some, length, map, if◌then◌else◌}
use Rattle.std.specs.List.{range_with_len}
use Rattle.ld_base.specs.Stint.{StintView, stint_of}
use Rattle.ld_base.specs.declared.act.Act.{Act}
use Rattle.ld_base.specs.declared.act.Act.TheVariants.{Start, Return}
use Rattle.ld_base.specs.declared.entry.Entry.{Entry}
use Rattle.ld_machine.specs.Plan.{Plan}
use Rattle.ld_machine.specs.State.{busy_count}
use Rattle.ld_machine.specs.Room.{busy_room}
use Rattle.ld_machine.specs.Effect.{state_after}

-- an iteration under way: who started it, the reading at which it began, and what was begun
pub record Play : Type 0 where
  pub thread : ℕ
  pub start : ℕ
  pub scenario : ℕ
  pub item : ℕ
  pub until : ℕ

-- what a user plays behind an act, where it played this before it: a Start of it begins something, a
-- Return of it ends what it played
abbrev pub play_behind : ℕ → ℕ → ℕ → Act → Option Play → Option Play
play_behind user thread t (Start n user' item until) before =
    if user' == user then Some (record { thread = thread; start = t; scenario = n; item = item; until = until }) else before
play_behind user thread t (Return _ user' _ _ _) before = if user' == user then None else before
play_behind user thread t _ before = before

-- what a user plays behind entries, where it played this before them
abbrev pub play_after : ℕ → Option Play → List Entry → Option Play
play_after user before [] = before
play_after user before (entry ∷ rest) = play_after user (play_behind user entry.thread entry.reading entry.act before) rest

-- what a user plays behind a history, if anything: what its last turn began
abbrev pub play_of : ℕ → List Entry → Option Play
play_of user history = play_after user None history

-- the stint of what a user plays
abbrev pub stint_of_play : ℕ → Play → StintView
stint_of_play user play = stint_of play.scenario user play.item play.until

-- the entries are numbered from 1, in their order
abbrev pub IsNumbered : List Entry → Type 0
IsNumbered history = map (λ (entry : Entry). entry.turn) history ≡ range_with_len 1 (length history)

-- the history keeps to the plan's limit, the Returns of all who are busy counted in
abbrev pub KeepsRoom : Plan → List Entry → Type 0
KeepsRoom plan history = length history + busy_count (state_after plan history) ≤ plan.entry_limit

-- the samples of the history keep to the limit, room for all those of the iterations under way counted in
abbrev pub KeepsSamples : Plan → List Entry → Type 0
KeepsSamples plan history =
    (state_after plan history).samples + busy_room plan (state_after plan history) ≤ plan.entry_limit
