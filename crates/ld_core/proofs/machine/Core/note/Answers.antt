use Rattle.std.proofs.Common.{◌+◌, arith, length}
use Rattle.ld_core.proofs.CoreLemmas.{core_behind, index_kept, noted_samples, noted_space, room_for, shows_noted, tell_kept, told_kept}
use Rattle.ld_core.proofs.FirstLemmas.{kept_read}
use Rattle.ld_core.proofs.machine.Core.note.Goals as goal

pub index_mut-state-requires : goal.index_mut-state-requires
index_mut-state-requires c =
    let told = rw (← c.self.view_is) at c.requires.told in
    index_kept c.self.inside c.args.scenario (told_kept c.self.inside c.self.invariant c.args.scenario c.args.act told)

pub record-requires-clause-may : goal.record-requires-clause-may
record-requires-clause-may c =
    let told = rw (← c.self.view_is) at c.requires.told in
    tell_kept c.self.inside c.self.invariant c.args.scenario c.args.act _
    (kept_read c.self.inside.scenarios.items c.args.scenario _ (told_kept c.self.inside c.self.invariant c.args.scenario c.args.act told) c.index_mut-state.ensures.value) told

pub record-requires-clause-room : goal.record-requires-clause-room
record-requires-clause-room c = room_for c.self.inside 1 0 c.self.invariant (rw (← c.self.view_is) at c.requires.room) (omega arith)

pub invariant_of-self : goal.invariant_of-self
invariant_of-self c =
    let told = rw (← c.self.view_is) at c.requires.told in
    let room = rw (← c.self.view_is) at c.requires.room in
    let turn = length c.self.inside.history.entries + 1 in
    core_behind c.self.inside _ _ _ _ _ c.self.invariant c.record.ensures.entries c.record.ensures.room (noted_samples c.args.scenario c.args.act c.requires.leaves)
    (noted_space c.self.inside turn c.args.thread c.args.reading c.args.scenario c.args.act c.requires.leaves)
    (shows_noted c.self.inside turn c.args.thread c.args.reading c.args.scenario c.args.act _ _ c.self.invariant
    (kept_read c.self.inside.scenarios.items c.args.scenario _ (told_kept c.self.inside c.self.invariant c.args.scenario c.args.act told) c.index_mut-state.ensures.value) c.requires.leaves c.record.ensures.follows told room)
