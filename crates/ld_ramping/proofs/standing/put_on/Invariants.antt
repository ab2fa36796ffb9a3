use Rattle.std.proofs.Common.{◌≡◌, drop}
use Rattle.ld_ramping.proofs.StandingLemmas.{AreSettled}
use Rattle.ld_ramping.proofs.standing.put_on.Given as goal

abbrev pub invariant-loop-slot : goal.invariant-loop-slot
invariant-loop-slot l =
    (l.on.limit ≡ 1000)
    × AreSettled (record { begin = l.begin; slots = l.slots }) l.reading l.on.numbers (drop l.slot-index l.slots)
