use Rattle.std.proofs.Common.{◌≡◌, drop}
use Rattle.ld_machine.specs.Together.{least_above, lesser}
use Rattle.ld_ramping.specs.Standing.{all_turns}
use Rattle.ld_ramping.proofs.standing.Standing.next_turn.Given as goal

abbrev pub invariant-loop-slot : goal.invariant-loop-slot
invariant-loop-slot l =
    lesser l.least (least_above l.reading (all_turns (record { begin = l.self.begin; slots = drop l.slot-index l.slot-items })))
    ≡ least_above l.reading (all_turns l.self)
