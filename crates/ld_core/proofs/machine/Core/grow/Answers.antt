use Rattle.std.proofs.Common.{◌+◌, arith, length, refl}
use Rattle.ld_machine.proofs.BusyLemmas.{busy_hold}
use Rattle.ld_machine.proofs.BusyRoomLemmas.{room_same}
use Rattle.ld_machine.specs.Effect.{hold}
use Rattle.ld_base.specs.declared.act.Act.TheVariants.{Grow}
use Rattle.ld_core.proofs.BehindLemmas.{with_pool, shows_grown}
use Rattle.ld_core.proofs.CoreLemmas.{core_behind, grown_told, index_kept, place_inside, place_share, room_for, state_behind, tell_kept}
use Rattle.ld_core.proofs.FirstLemmas.{kept_read}
use Rattle.ld_core.proofs.ShownLemmas.{users_long}
use Rattle.ld_core.proofs.machine.Core.grow.Goals as goal

pub unreachable-requires : goal.unreachable-requires
unreachable-requires c =
    let below = rw (← c.self.view_is) at c.requires.below in
    let long = users_long c.self.invariant.shows in
    let limit = c.self.invariant.shows.limit in
    let full = c.in_default.ensures.full in
    omega arith

pub index_mut-state-requires : goal.index_mut-state-requires
index_mut-state-requires c =
    let place = rw (← c.self.view_is) at c.requires.place in
    index_kept c.self.inside c.args.scenario (place_inside c.self.inside c.self.invariant c.args.scenario c.args.slot place)

pub record-requires-clause-may : goal.record-requires-clause-may
record-requires-clause-may c =
    let place = rw (← c.self.view_is) at c.requires.place in
    let below = rw (← c.self.view_is) at c.requires.below in
    let long = users_long c.self.invariant.shows in
    tell_kept c.self.inside c.self.invariant c.args.scenario (Grow c.args.scenario c.in-Some.user c.args.slot) _
    (kept_read c.self.inside.scenarios.items c.args.scenario _ (place_inside c.self.inside c.self.invariant c.args.scenario c.args.slot place) c.index_mut-state.ensures.value)
    (grown_told c.self.inside c.self.invariant c.args.scenario c.in-Some.user c.args.slot place (omega (arith, long, c.in-Some.ensures.number)) below)

pub record-requires-clause-room : goal.record-requires-clause-room
record-requires-clause-room c = room_for c.self.inside 1 0 c.self.invariant (rw (← c.self.view_is) at c.requires.room) (omega arith)

pub invariant_of-self : goal.invariant_of-self
invariant_of-self c =
    let room = rw (← c.self.view_is) at c.requires.room in
    let place = rw (← c.self.view_is) at c.requires.place in
    let below = rw (← c.self.view_is) at c.requires.below in
    let long = users_long c.self.invariant.shows in
    let share = place_share c.self.inside c.self.invariant c.args.scenario c.args.slot place in
    core_behind c.self.inside _ _ _ _ _ c.self.invariant c.record.ensures.entries c.record.ensures.room refl
    (room_same c.self.inside.plan.plan (state_behind c.self.inside) c.args.scenario (hold c.in-Some.user c.args.slot) (busy_hold c.in-Some.user c.args.slot))
    (with_pool _ (c.in-Some.ensures.held)
    (shows_grown c.self.invariant.shows (length c.self.inside.history.entries + 1) c.args.thread c.args.reading c.args.scenario c.in-Some.user c.args.slot _ _ share.0
    (kept_read c.self.inside.scenarios.items c.args.scenario _ (place_inside c.self.inside c.self.invariant c.args.scenario c.args.slot place) c.index_mut-state.ensures.value) c.record.ensures.follows
    (grown_told c.self.inside c.self.invariant c.args.scenario c.in-Some.user c.args.slot place (omega (arith, long, c.in-Some.ensures.number)) below) share.1 room (omega (arith, long, c.in-Some.ensures.number)) below))

pub returns-clause-number : goal.returns-clause-number
returns-clause-number c =
    let long = users_long c.self.invariant.shows in
    rw (← c.self.view_is) (omega (arith, long, c.in-Some.ensures.number))
