use Rattle.std.proofs.Common.{◌≡◌, ◌++◌, take}
use Rattle.std.specs.List.{concat, flat_map}
use Rattle.ld_journal.specs.Journal.{entry_lines}
use Rattle.ld_journal.proofs.journal.put_entries.Given as goal

abbrev pub invariant-loop-entry : goal.invariant-loop-entry
invariant-loop-entry l = l.into.items ≡ l.fn.into.items ++ concat (flat_map entry_lines (take l.entry-index l.entries))
