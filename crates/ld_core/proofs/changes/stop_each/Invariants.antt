use Rattle.ld_core.proofs.StopLemmas.{Told}
use Rattle.ld_core.proofs.changes.stop_each.Given as goal

abbrev pub invariant-loop-scenario : goal.invariant-loop-scenario
invariant-loop-scenario l = Told l.fn.scenarios l.scenarios l.scenario-index l.reading
