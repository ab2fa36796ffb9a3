use Rattle.std.specs.Prelude.{◌*◌, Some}
use Rattle.ld_set.specs.Moments.{IsLeastAmong}
use Rattle.ld_set.proofs.moment_table.MomentTable.least_above.Given as goal

abbrev pub invariant-loop-block : goal.invariant-loop-block
invariant-loop-block l = IsLeastAmong l.self (Some l.reading) 0 (32 * l.block) l.least
