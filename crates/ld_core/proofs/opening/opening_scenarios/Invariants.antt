use Rattle.ld_core.proofs.OpeningLemmas.{OpenedTo}
use Rattle.ld_core.proofs.opening.opening_scenarios.Given as goal

abbrev pub invariant-loop-number : goal.invariant-loop-number
invariant-loop-number l = OpenedTo l.plan.plan l.scenarios.items l.number
