-- What is counted of a history: the acts of one scenario, kind by kind.
use Rattle.std.specs.Prelude.{ℕ, Bool, false, ◌==◌, List, map, count_by}
use Rattle.ld_base.specs.declared.act.Act.{Act}
use Rattle.ld_base.specs.declared.act.Act.TheVariants.{Start, Drop, Late, Return}
use Rattle.ld_base.specs.declared.act.Outcome.TheVariants.{Done, Interrupted}
use Rattle.ld_base.specs.declared.entry.Entry.{Entry}

-- an act of scenario n is of a kind
abbrev pub starts_item : ℕ → Act → Bool
starts_item n (Start scenario _ _ _) = scenario == n
starts_item n _ = false

abbrev pub ends_done : ℕ → Act → Bool
ends_done n (Return scenario _ _ Done _) = scenario == n
ends_done n _ = false

abbrev pub ends_interrupted : ℕ → Act → Bool
ends_interrupted n (Return scenario _ _ Interrupted _) = scenario == n
ends_interrupted n _ = false

abbrev pub drops_item : ℕ → Act → Bool
drops_item n (Drop scenario _) = scenario == n
drops_item n _ = false

abbrev pub counts_late : ℕ → Act → Bool
counts_late n (Late scenario _) = scenario == n
counts_late n _ = false

-- the acts of a history, in order
abbrev pub acts_written : List Entry → List Act
acts_written history = map (λ (entry : Entry). entry.act) history

-- how many acts of a history are of a kind
abbrev pub how_many : (Act → Bool) → List Entry → ℕ
how_many kind history = count_by kind (acts_written history)
