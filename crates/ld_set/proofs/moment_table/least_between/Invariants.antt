use Rattle.ld_set.specs.Moments.{IsLeastAmong}
use Rattle.ld_set.proofs.moment_table.least_between.Given as goal

abbrev pub invariant-loop-number : goal.invariant-loop-number
invariant-loop-number l = IsLeastAmong l.moments l.reading l.from l.number l.least
