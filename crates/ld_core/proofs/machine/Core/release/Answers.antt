use Rattle.std.proofs.Common.{◌+◌, arith, length, refl}
use Rattle.ld_base.specs.declared.act.Act.TheVariants.{Release}
use Rattle.ld_machine.proofs.BusyRoomLemmas.{release_room}
use Rattle.ld_machine.specs.State.{Idle}
use Rattle.ld_core.proofs.BehindLemmas.{with_pool, shows_released}
use Rattle.ld_core.proofs.CoreLemmas.{core_behind, found_inside, index_kept, part_kept, released_in, room_for, state_behind, tell_kept}
use Rattle.ld_core.proofs.FirstLemmas.{kept_read}
use Rattle.ld_core.proofs.ShownLemmas.{idle_once, user_found}
use Rattle.ld_core.proofs.machine.Core.release.Goals as goal

pub release-requires : goal.release-requires
release-requires c =
    let f = released_in c.self.inside c.self.invariant c.args.scenario c.args.user (rw (← c.self.view_is) at c.requires.told) in
    rw (user_found c.self.invariant.shows c.args.scenario c.args.user Idle f) refl

pub index_mut-state-requires : goal.index_mut-state-requires
index_mut-state-requires c =
    let f = released_in c.self.inside c.self.invariant c.args.scenario c.args.user (rw (← c.self.view_is) at c.requires.told) in
    index_kept c.self.inside c.args.scenario (part_kept c.self.inside c.self.invariant c.args.scenario (found_inside c.self.inside c.self.invariant c.args.scenario c.args.user Idle f))

pub record-requires-clause-may : goal.record-requires-clause-may
record-requires-clause-may c =
    let told = rw (← c.self.view_is) at c.requires.told in
    let f = released_in c.self.inside c.self.invariant c.args.scenario c.args.user told in
    let below = part_kept c.self.inside c.self.invariant c.args.scenario (found_inside c.self.inside c.self.invariant c.args.scenario c.args.user Idle f) in
    tell_kept c.self.inside c.self.invariant c.args.scenario (Release c.args.scenario c.args.user) _
    (kept_read c.self.inside.scenarios.items c.args.scenario _ below c.index_mut-state.ensures.value) told

pub record-requires-clause-room : goal.record-requires-clause-room
record-requires-clause-room c = room_for c.self.inside 1 0 c.self.invariant (rw (← c.self.view_is) at c.requires.room) (omega arith)

pub invariant_of-self : goal.invariant_of-self
invariant_of-self c =
    let room = rw (← c.self.view_is) at c.requires.room in
    let f = released_in c.self.inside c.self.invariant c.args.scenario c.args.user (rw (← c.self.view_is) at c.requires.told) in
    let below = part_kept c.self.inside c.self.invariant c.args.scenario (found_inside c.self.inside c.self.invariant c.args.scenario c.args.user Idle f) in
    let turn = length c.self.inside.history.entries + 1 in
    core_behind c.self.inside _ _ _ _ _ c.self.invariant c.record.ensures.entries c.record.ensures.room refl
    (release_room c.self.inside.plan.plan (state_behind c.self.inside) c.args.thread c.args.reading c.args.scenario c.args.user f.share f.stands
    (idle_once c.self.invariant.shows c.args.scenario c.args.user f))
    (with_pool _ (c.release.ensures)
    (shows_released c.self.invariant.shows turn c.args.thread c.args.reading c.args.scenario c.args.user _ _ f
    (kept_read c.self.inside.scenarios.items c.args.scenario _ below c.index_mut-state.ensures.value) c.record.ensures.follows
    (rw (← c.self.view_is) at c.requires.told) room))
