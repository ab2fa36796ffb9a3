-- What a thread may ask, by its own entries in the history alone.
use Rattle.std.specs.Prelude.{◌≡◌, ◌<◌, ◌==◌, ◌∷◌, ◌++◌, ℕ, Bool, true, false, List, filter, length, Contains, IsTrue}
use Rattle.ld_base.specs.Stint.{StintView}
use Rattle.ld_base.specs.declared.act.Act.{Act}
use Rattle.ld_base.specs.declared.act.Act.TheVariants.{Start, Return}
use Rattle.ld_base.specs.declared.ask.Ask.{Ask}
use Rattle.ld_base.specs.declared.ask.Ask.TheVariants as asks
use Rattle.ld_base.specs.declared.entry.Entry.{Entry}
use Rattle.ld_machine.specs.Plan.{Plan}
use Rattle.ld_machine.specs.Room.{script_room}
use Rattle.ld_machine.specs.Samples.{tally_fits}

-- a thread's own entries
abbrev pub own_entries : ℕ → List Entry → List Entry
own_entries thread history = filter (λ (entry : Entry). entry.thread == thread) history

-- an act is a Return of the user
abbrev pub returns_user : ℕ → Act → Bool
returns_user user (Return _ user' _ _ _) = user' == user
returns_user user _ = false

-- the Start of the stint stands among these entries, and no Return of its user behind it
pub record IsBegun (own : List Entry) (stint : StintView) : Type 0 where
  pub before : List Entry
  pub start : Entry
  pub behind : List Entry
  pub parts : own ≡ before ++ start ∷ behind
  pub starts : start.act ≡ Start stint.scenario stint.user stint.item stint.until
  pub unreturned : (entry : Entry) → Contains behind entry → returns_user stint.user entry.act ≡ false

-- a thread that has these entries may ask for a Return of a stint that it began and didn't return, with a
-- tally that fits, and for a Check of a scenario of the plan; and for everything else at any time
abbrev pub MayAsk : Plan → List Entry → Ask → Type 0
MayAsk plan own (asks.Return stint finished tally) =
    IsBegun own stint × IsTrue (tally_fits plan.names (script_room plan stint.scenario) tally)
MayAsk plan own (asks.Check n) = n < length plan.parts
MayAsk plan own _ = true ≡ true
