use Rattle.std.proofs.Common.{◌≡◌, ◌<◌, length, rules, subst, sym, ap}
use Rattle.ld_machine.specs.Together.{least_above}
use Rattle.ld_ramping.specs.Owned.{AreOwned}
use Rattle.ld_ramping.specs.Rising.{AreRising}
use Rattle.ld_ramping.specs.Standing.{StandingView, slot_turns}
use Rattle.ld_ramping.proofs.StandingLemmas.{item_rises, turn_step}
use Rattle.ld_ramping.proofs.standing.Standing.next_turn.Goals as goal

pub turn_above-requires : goal.turn_above-requires
turn_above-requires c =
    let slots = c.as_slice-slot-items.result.now in
    let below : c.loop-slot.slot-index < length slots = search rules in
    subst AreRising (sym c.as_slice.ensures)
    (item_rises slots (subst AreOwned (sym c.as_slice-slot-items.ensures) c.self.invariant.owned) c.loop-slot.slot-index c.slot-item.result below c.slot-item.is)

pub loop-slot-preserved : goal.loop-slot-preserved
loop-slot-preserved c =
    let slots = c.as_slice-slot-items.result.now in
    let below : c.loop-slot.slot-index < length slots = search rules in
    let begin : c.self.inside.begin ≡ c.args.self.now.begin = ap (λ (v : StandingView). v.begin) c.self.view_is in
    let turns : c.turn_above.result ≡ least_above c.args.reading (slot_turns c.args.self.now.begin c.slot-item.result.intervals) = search rules in
    let step = turn_step c.args.self.now.begin c.args.reading slots c.loop-slot.slot-index c.slot-item.result below c.slot-item.is c.loop-slot.least c.turn_above.result _ turns c.loop-slot.invariant in
    search rules
