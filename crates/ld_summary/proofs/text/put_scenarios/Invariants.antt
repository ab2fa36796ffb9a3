use Rattle.std.proofs.Common.{◌≡◌, ◌++◌, map, take}
use Rattle.std.specs.List.{concat, enumerate_from}
use Rattle.ld_summary.specs.Summary.{line_of, wholes_of}
use Rattle.ld_summary.proofs.text.put_scenarios.Given as goal

abbrev pub invariant-loop-scenario : goal.invariant-loop-scenario
invariant-loop-scenario l =
    l.into.items ≡ l.fn.into.items ++ concat (map (line_of l.plans l.histories) (take l.scenario (enumerate_from 0 (wholes_of l.plans))))
