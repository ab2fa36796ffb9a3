-- Prefixes of legal histories, and the first illegal entry, in plain words.
use Rattle.std.specs.Prelude.{◌≡◌, ◌≤◌, ◌<◌, ◌⊎◌, ◌++◌, ℕ, List, take, length}
use Rattle.ld_base.specs.declared.entry.Entry.{Entry}
use Rattle.ld_machine.specs.Plan.{Plan}
use Rattle.ld_machine.specs.History.{IsLegal}

-- some legal history begins with these entries
abbrev pub IsPrefix : Plan → List Entry → Type 0
IsPrefix plan history = (rest : List Entry) × IsLegal plan (history ++ rest)

-- the entry of this turn, from 1, is the first at which the entries up to it are no prefix of a legal
-- history
pub record IsFirstBeyond (plan : Plan) (history : List Entry) (turn : ℕ) : Type 0 where
  pub least : 1 ≤ turn
  pub most : turn ≤ length history
  pub beyond : IsPrefix plan (take turn history) → ⊥
  pub before : (k : ℕ) → k < turn → IsPrefix plan (take k history)

-- the history is a prefix of a legal one, but not legal, as it ends between the two entries of one step;
-- and the turn is that of its last entry
pub record IsCutShort (plan : Plan) (history : List Entry) (turn : ℕ) : Type 0 where
  pub prefix : IsPrefix plan history
  pub illegal : IsLegal plan history → ⊥
  pub last : turn ≡ length history

-- the turn is that of the first illegal entry
abbrev pub IsFirstIllegal : Plan → List Entry → ℕ → Type 0
IsFirstIllegal plan history turn = IsFirstBeyond plan history turn ⊎ IsCutShort plan history turn
