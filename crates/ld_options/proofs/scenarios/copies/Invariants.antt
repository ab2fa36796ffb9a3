use Rattle.std.proofs.Common.{◌≡◌, take}
use Rattle.ld_options.proofs.scenarios.copies.Given as goal

abbrev pub invariant-loop-scenario : goal.invariant-loop-scenario
invariant-loop-scenario l = l.copies.items ≡ take l.scenario-index l.scenarios
