-- Runs: what a core is asked, one ask after another.
use Rattle.std.specs.Prelude.{◌≡◌, ◌++◌, ℕ, List, [], ◌∷◌}
use Rattle.ld_base.specs.declared.ask.Ask.{Ask}
use Rattle.ld_base.specs.declared.entry.Entry.{Entry}
use Rattle.ld_machine.specs.Effect.{state_after}
use Rattle.ld_machine.specs.Plan.{Plan}
use Rattle.ld_machine.specs.Step.{Result, IsStep}

-- an ask of a thread at a reading
pub record Asked : Type 0 where
  pub thread : ℕ
  pub ask : Ask
  pub reading : ℕ

-- behind a history these asks, one after another and each one step of the machine, leave another history
abbrev pub Leave : Plan → List Entry → List Asked → List Entry → Type 0
Leave plan history [] after = after ≡ history
Leave plan history (one ∷ rest) after =
    (result : Result)
    × IsStep plan (state_after plan history) one.thread one.ask one.reading result
    × Leave plan (history ++ result.entries) rest after
