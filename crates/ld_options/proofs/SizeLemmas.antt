-- How many scenarios a test has; what stands above rests on these bounds alone.
use Rattle.std.proofs.Common.{◌<◌, ◌≤◌, length, arith}
use Rattle.ld_options.specs.Ranges.{most_scenarios}
use Rattle.ld_options.specs.declared.options.Options.{Options}

pub some_scenarios : (options : Options) → 0 < length options.scenarios
some_scenarios options = let some = options.some in omega arith

pub few_scenarios : (options : Options) → length options.scenarios ≤ most_scenarios
few_scenarios options = options.few
