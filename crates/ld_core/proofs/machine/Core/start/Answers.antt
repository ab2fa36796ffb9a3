use Rattle.std.proofs.Common.{◌+◌, ◌-◌, ◌∙◌, ap, arith, length, set}
use Rattle.ld_base.specs.Stint.{StintView}
use Rattle.ld_base.specs.declared.act.Act.TheVariants.{Start}
use Rattle.ld_pool.specs.Users.{busy_with}
use Rattle.ld_machine.proofs.BusyRoomLemmas.{start_room}
use Rattle.ld_machine.specs.State.{Idle}
use Rattle.ld_core.proofs.BehindLemmas.{with_pool, shows_started}
use Rattle.ld_core.proofs.CoreLemmas.{core_sampled, found_inside, index_kept, part_kept, room_for, script_is, starter_in, state_behind, tell_kept}
use Rattle.ld_core.proofs.FirstLemmas.{kept_read}
use Rattle.ld_core.proofs.ShownLemmas.{idle_once, user_found}
use Rattle.ld_core.proofs.machine.Core.start.Goals as goal

pub sample_room-requires : goal.sample_room-requires
sample_room-requires c =
    found_inside c.self.inside c.self.invariant c.args.scenario c.args.user Idle (starter_in c.self.inside c.self.invariant c.args.scenario c.args.user c.args.item c.args.until (rw (← c.self.view_is) at c.requires.told))

pub start-stint-requires : goal.start-stint-requires
start-stint-requires c =
    user_found c.self.invariant.shows c.args.scenario c.args.user Idle (starter_in c.self.inside c.self.invariant c.args.scenario c.args.user c.args.item c.args.until (rw (← c.self.view_is) at c.requires.told))

pub index_mut-state-requires : goal.index_mut-state-requires
index_mut-state-requires c =
    let f = starter_in c.self.inside c.self.invariant c.args.scenario c.args.user c.args.item c.args.until (rw (← c.self.view_is) at c.requires.told) in
    index_kept c.self.inside c.args.scenario (part_kept c.self.inside c.self.invariant c.args.scenario (found_inside c.self.inside c.self.invariant c.args.scenario c.args.user Idle f))

pub record-requires-clause-may : goal.record-requires-clause-may
record-requires-clause-may c =
    let f = starter_in c.self.inside c.self.invariant c.args.scenario c.args.user c.args.item c.args.until (rw (← c.self.view_is) at c.requires.told) in
    let below = part_kept c.self.inside c.self.invariant c.args.scenario (found_inside c.self.inside c.self.invariant c.args.scenario c.args.user Idle f) in
    tell_kept c.self.inside c.self.invariant c.args.scenario (Start c.args.scenario c.args.user c.args.item c.args.until) _
    (kept_read c.self.inside.scenarios.items c.args.scenario _ below c.index_mut-state.ensures.value) (rw (← c.self.view_is) at c.requires.told)

pub record-requires-clause-room : goal.record-requires-clause-room
record-requires-clause-room c = room_for c.self.inside 1 1 c.self.invariant (rw (← c.self.view_is) at c.requires.room) (omega arith)

pub invariant_of-self : goal.invariant_of-self
invariant_of-self c =
    let pool = c.self.inside.pool in
    let room = rw (← c.self.view_is) at c.requires.room in
    let space = rw (← c.self.view_is) at c.requires.samples in
    let f = starter_in c.self.inside c.self.invariant c.args.scenario c.args.user c.args.item c.args.until (rw (← c.self.view_is) at c.requires.told) in
    let below = part_kept c.self.inside c.self.invariant c.args.scenario (found_inside c.self.inside c.self.invariant c.args.scenario c.args.user Idle f) in
    let pool_is = c.start-stint.ensures.busy
    ∙ ap (λ (s : StintView). record pool { users = set pool.users (c.args.user - 1) (busy_with c.args.thread s) }) c.start-stint.ensures.stint in
    let more = start_room c.self.inside.plan.plan (state_behind c.self.inside) c.args.thread c.args.reading c.args.scenario c.args.user c.args.item c.args.until f.share f.stands
    (idle_once c.self.invariant.shows c.args.scenario c.args.user f) in
    let script = script_is c.self.inside.plan.plan c.args.scenario c.sample_room.result c.sample_room.ensures in
    let counted = c.self.invariant.under_way in
    core_sampled c.self.inside _ _ _ _ _ _ _ c.self.invariant c.record.ensures.entries c.record.ensures.room (omega arith) (omega (arith, more, script, counted))
    (with_pool _ (pool_is)
    (shows_started c.self.invariant.shows (length c.self.inside.history.entries + 1) c.args.thread c.args.reading c.args.scenario c.args.user c.args.item c.args.until _ _ f
    (kept_read c.self.inside.scenarios.items c.args.scenario _ below c.index_mut-state.ensures.value) c.record.ensures.follows (rw (← c.self.view_is) at c.requires.told) room space))
