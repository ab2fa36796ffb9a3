use Rattle.ld_summary.proofs.ActLemmas.{AreSoFar}
use Rattle.ld_summary.proofs.counts.Counts.of.Given as goal

abbrev pub invariant-loop-history : goal.invariant-loop-history
invariant-loop-history l = AreSoFar l.scenario l.histories l.history-index l.counts
