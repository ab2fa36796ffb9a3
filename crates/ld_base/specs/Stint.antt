-- what a stint is known by
use Rattle.std.specs.Prelude.{ℕ}

-- a stint as contracts see it: whose scenario and user, which item, and until when
pub record StintView : Type 0 where
  pub scenario : ℕ
  pub user : ℕ
  pub item : ℕ
  pub until : ℕ

-- the stint of four numbers
abbrev pub stint_of : ℕ → ℕ → ℕ → ℕ → StintView
stint_of s u i t = record { scenario = s; user = u; item = i; until = t }
