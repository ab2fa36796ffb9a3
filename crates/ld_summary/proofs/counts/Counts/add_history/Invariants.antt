use Rattle.std.proofs.Common.{◌≡◌, take}
use Rattle.ld_summary.specs.Counts.{counts_of, plus}
use Rattle.ld_machine.specs.Counted.{acts_written}
use Rattle.ld_summary.proofs.counts.Counts.add_history.Given as goal

abbrev pub invariant-loop-at : goal.invariant-loop-at
invariant-loop-at l = l.self ≡ plus l.fn.self (counts_of l.scenario (acts_written (take l.at l.history.entries)))
