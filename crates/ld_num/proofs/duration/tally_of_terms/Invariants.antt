use Rattle.std.proofs.Common.{length}
use Rattle.ld_num.proofs.DurationLemmas.{Reached}
use Rattle.ld_num.proofs.duration.tally_of_terms.Given as goal

abbrev pub invariant-loop-rest : goal.invariant-loop-rest
invariant-loop-rest l = Reached l.fn.text l.rest l.tally

abbrev pub decreases-loop-rest : goal.decreases-loop-rest
decreases-loop-rest l = length l.rest
