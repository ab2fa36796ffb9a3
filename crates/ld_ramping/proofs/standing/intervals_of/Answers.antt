use Rattle.std.proofs.Common.{◌<◌, length, rules, subst, sym}
use Rattle.ld_ramping.specs.Rising.{AreRising}
use Rattle.ld_ramping.proofs.StandingLemmas.{item_rises}
use Rattle.ld_ramping.proofs.standing.intervals_of.Goals as goal

pub returns-then-slot-number-clause-rising : goal.returns-then-slot-number-clause-rising
returns-then-slot-number-clause-rising c =
    let below : c.loop-slot.slot-index < length c.args.slots.now = search rules in
    subst AreRising (sym c.as_slice.ensures) (item_rises c.args.slots.now c.requires c.loop-slot.slot-index c.slot-item.result below c.slot-item.is)
