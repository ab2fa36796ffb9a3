use Rattle.std.proofs.Common.{◌+◌, arith, length, refl}
use Rattle.ld_machine.proofs.BusyLemmas.{busy_hold}
use Rattle.ld_machine.proofs.BusyRoomLemmas.{room_same}
use Rattle.ld_machine.specs.Effect.{hold}
use Rattle.ld_base.specs.declared.act.Act.TheVariants.{Take}
use Rattle.ld_core.proofs.BehindLemmas.{with_pool, shows_taken}
use Rattle.ld_core.proofs.CoreLemmas.{core_behind, free_listed, free_there, index_kept, place_inside, place_share, room_for, state_behind, taken_told, tell_kept}
use Rattle.ld_core.proofs.FirstLemmas.{kept_read}
use Rattle.ld_core.proofs.ShownLemmas.{free_said}
use Rattle.ld_core.proofs.machine.Core.take.Goals as goal

pub unreachable-requires : goal.unreachable-requires
unreachable-requires c = free_there c.self.inside c.self.invariant (rw (← c.self.view_is) at c.requires.free) c.in_default.ensures.none

pub index_mut-state-requires : goal.index_mut-state-requires
index_mut-state-requires c =
    let place = rw (← c.self.view_is) at c.requires.place in
    index_kept c.self.inside c.args.scenario (place_inside c.self.inside c.self.invariant c.args.scenario c.args.slot place)

pub record-requires-clause-may : goal.record-requires-clause-may
record-requires-clause-may c =
    let place = rw (← c.self.view_is) at c.requires.place in
    tell_kept c.self.inside c.self.invariant c.args.scenario (Take c.args.scenario c.in-Some.user c.args.slot) _
    (kept_read c.self.inside.scenarios.items c.args.scenario _ (place_inside c.self.inside c.self.invariant c.args.scenario c.args.slot place) c.index_mut-state.ensures.value)
    (taken_told c.self.inside c.self.invariant c.args.scenario c.in-Some.user c.args.slot place c.in-Some.ensures.free)

pub record-requires-clause-room : goal.record-requires-clause-room
record-requires-clause-room c = room_for c.self.inside 1 0 c.self.invariant (rw (← c.self.view_is) at c.requires.room) (omega arith)

pub invariant_of-self : goal.invariant_of-self
invariant_of-self c =
    let room = rw (← c.self.view_is) at c.requires.room in
    let place = rw (← c.self.view_is) at c.requires.place in
    let free = free_said c.self.invariant.shows c.in-Some.user c.in-Some.ensures.free in
    let share = place_share c.self.inside c.self.invariant c.args.scenario c.args.slot place in
    core_behind c.self.inside _ _ _ _ _ c.self.invariant c.record.ensures.entries c.record.ensures.room refl
    (room_same c.self.inside.plan.plan (state_behind c.self.inside) c.args.scenario (hold c.in-Some.user c.args.slot) (busy_hold c.in-Some.user c.args.slot))
    (with_pool _ (c.in-Some.ensures.held)
    (shows_taken c.self.invariant.shows (length c.self.inside.history.entries + 1) c.args.thread c.args.reading c.args.scenario c.in-Some.user c.args.slot _ _ share.0
    (kept_read c.self.inside.scenarios.items c.args.scenario _ (place_inside c.self.inside c.self.invariant c.args.scenario c.args.slot place) c.index_mut-state.ensures.value) c.record.ensures.follows
    (taken_told c.self.inside c.self.invariant c.args.scenario c.in-Some.user c.args.slot place c.in-Some.ensures.free) share.1 room free.2 free.0 free.1 c.in-Some.ensures.free))

pub returns-clause-free : goal.returns-clause-free
returns-clause-free c = rw (← c.self.view_is) (free_listed c.self.inside c.self.invariant c.in-Some.user c.in-Some.ensures.free)
