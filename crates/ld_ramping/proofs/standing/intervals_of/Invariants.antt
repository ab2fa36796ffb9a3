use Rattle.std.proofs.Common.{◌≡◌, drop}
use Rattle.ld_ramping.specs.Standing.{intervals_at}
use Rattle.ld_ramping.proofs.standing.intervals_of.Given as goal

abbrev pub invariant-loop-slot : goal.invariant-loop-slot
invariant-loop-slot l = intervals_at (drop l.slot-index l.slots) l.number ≡ intervals_at l.slots l.number
