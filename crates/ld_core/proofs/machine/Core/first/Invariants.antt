use Rattle.ld_core.proofs.NextLemmas.{Looked}
use Rattle.ld_core.proofs.machine.Core.first.Given as goal

abbrev pub invariant-loop-scenario : goal.invariant-loop-scenario
invariant-loop-scenario l = Looked l.self l.reading l.scenario l.first
