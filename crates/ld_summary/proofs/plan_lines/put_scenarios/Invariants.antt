use Rattle.std.proofs.Common.{◌≡◌, ◌++◌, take}
use Rattle.std.specs.List.{concat, flat_map, zip}
use Rattle.ld_summary.specs.PlanText.{scenario_lines}
use Rattle.ld_summary.proofs.plan_lines.put_scenarios.Given as goal

abbrev pub invariant-loop-number : goal.invariant-loop-number
invariant-loop-number l =
    l.into.items
    ≡ l.fn.into.items
    ++ concat (flat_map (scenario_lines l.listed) (take l.number (zip l.plan.options.scenarios l.plan.plan.parts)))
