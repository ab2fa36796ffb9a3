use Rattle.std.proofs.Common.{◌-◌, length}
use Rattle.ld_outside.proofs.SinkLemmas.{IsPutSoFar}
use Rattle.ld_outside.proofs.sink.put_all.Given as goal

abbrev pub invariant-loop-done : goal.invariant-loop-done
invariant-loop-done g l = IsPutSoFar (g.S.Sink.seen l.initial.sink) l.text l.done (g.S.Sink.seen l.sink)

abbrev pub decreases-loop-done : goal.decreases-loop-done
decreases-loop-done g l = length l.text - l.done
