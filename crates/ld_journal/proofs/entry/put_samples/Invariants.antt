use Rattle.std.proofs.Common.{◌≡◌, ◌++◌, map, take}
use Rattle.std.specs.List.{concat}
use Rattle.ld_journal.specs.Journal.{sample_line}
use Rattle.ld_journal.proofs.entry.put_samples.Given as goal

abbrev pub invariant-loop-at : goal.invariant-loop-at
invariant-loop-at l = l.into.items ≡ l.fn.into.items ++ concat (map sample_line (take l.at l.tally.samples))
