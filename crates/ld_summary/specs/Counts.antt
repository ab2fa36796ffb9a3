-- What is counted of a scenario: how many acts there are of each kind.
use Rattle.std.specs.Prelude.{◌≤◌, ◌+◌, ℕ, List, count_by}
use Rattle.std.specs.List.{flat_map}
use Rattle.ld_base.specs.History.{HistoryView}
use Rattle.ld_base.specs.declared.act.Act.{Act}
use Rattle.ld_machine.specs.Counted.{acts_written, counts_late, drops_item, ends_done, ends_interrupted, starts_item}
use Rattle.ld_summary.specs.declared.counts.Counts.{Counts}

-- how many acts of a scenario there are of each kind
abbrev pub counts_of : ℕ → List Act → Counts
counts_of n acts =
    record {
      started = count_by (starts_item n) acts;
      done = count_by (ends_done n) acts;
      interrupted = count_by (ends_interrupted n) acts;
      dropped = count_by (drops_item n) acts;
      late = count_by (counts_late n) acts;
    }

-- the acts of a history, and those of all histories
abbrev pub acts_in : HistoryView → List Act
acts_in history = acts_written history.entries

abbrev pub acts_of : List HistoryView → List Act
acts_of histories = flat_map acts_in histories

-- the sums of counts
abbrev pub plus : Counts → Counts → Counts
plus a b =
    record {
      started = a.started + b.started;
      done = a.done + b.done;
      interrupted = a.interrupted + b.interrupted;
      dropped = a.dropped + b.dropped;
      late = a.late + b.late;
    }

-- no count is above this number
pub record AreAtMost (counts : Counts) (most : ℕ) : Type 0 where
  pub started : counts.started ≤ most
  pub done : counts.done ≤ most
  pub interrupted : counts.interrupted ≤ most
  pub dropped : counts.dropped ≤ most
  pub late : counts.late ≤ most
