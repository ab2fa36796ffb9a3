use Rattle.std.proofs.Common.{drop}
use Rattle.ld_ramping.proofs.StandingLemmas.{AreLeft}
use Rattle.ld_ramping.proofs.standing.first_as.Given as goal

abbrev pub invariant-loop-slot : goal.invariant-loop-slot
invariant-loop-slot l =
    AreLeft (record { begin = l.begin; slots = l.slots }) l.reading l.among.numbers l.on (drop l.slot-index l.slots)
