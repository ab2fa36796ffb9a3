use Rattle.std.proofs.Common.{◌≡◌, ◌++◌, drop}
use Rattle.ld_ramping.specs.Standing.{numbers_of}
use Rattle.ld_ramping.proofs.owned.owned_set.Given as goal

abbrev pub invariant-loop-slot : goal.invariant-loop-slot
invariant-loop-slot l = (l.owned.limit ≡ 1000) × (l.owned.numbers ++ numbers_of (drop l.slot-index l.slots) ≡ numbers_of l.slots)
