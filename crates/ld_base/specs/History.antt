-- what a history holds
use Rattle.std.specs.Prelude.{ℕ, List}
use Rattle.ld_base.specs.declared.entry.Entry.{Entry}

-- a history as contracts see it: its entries, and how many it has room for
pub record HistoryView : Type 0 where
  pub entries : List Entry
  pub room : ℕ
