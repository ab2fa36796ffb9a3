use Rattle.std.proofs.Common.{◌<◌, length, rules}
use Rattle.ld_ramping.proofs.OwnedLemmas.{one_more}
use Rattle.ld_ramping.proofs.owned.owned_set.Goals as goal

pub loop-slot-preserved : goal.loop-slot-preserved
loop-slot-preserved c =
    let below : c.loop-slot.slot-index < length c.args.slots.now = search rules in
    let more = one_more c.args.slots.now c.loop-slot.slot-index c.slot-item.result c.loop-slot.owned.numbers c.requires.numbers below c.slot-item.is c.loop-slot.invariant.1 in
    search rules
