use Rattle.std.proofs.Common.{◌+◌, ◌∙◌, List, arith, length, refl, subst, sym, true}
use Rattle.std.proofs.lemmas.List.{with_items_is}
use Rattle.ld_base.specs.declared.act.Act.TheVariants.{Control}
use Rattle.ld_base.specs.declared.command.Command.TheVariants.{Stop}
use Rattle.ld_machine.proofs.BusyRoomLemmas.{room_command}
use Rattle.ld_executor.specs.declared.executor_state.ExecutorState.{ExecutorState}
use Rattle.ld_core.specs.Changes.{AllFollow, AllMayTell}
use Rattle.ld_core.specs.Shows.{Shows}
use Rattle.ld_core.proofs.BehindLemmas.{shows_stopped}
use Rattle.ld_core.proofs.CoreLemmas.{core_behind, room_for, state_behind, state_noted}
use Rattle.ld_core.proofs.StopLemmas.{stop_may}
use Rattle.ld_core.proofs.machine.Core.stop_all.Goals as goal

pub stop_each-requires : goal.stop_each-requires
stop_each-requires c =
    subst (λ (l : List ExecutorState). AllMayTell l (Control Stop)) (sym c.deref_mut.ensures.value) (stop_may c.self.invariant.shows)

pub write-requires : goal.write-requires
write-requires c = record { room = room_for c.self.inside 1 0 c.self.invariant (rw (← c.self.view_is) at c.requires.room) (omega arith) }

pub invariant_of-self : goal.invariant_of-self
invariant_of-self c =
    let room = rw (← c.self.view_is) at c.requires.room in
    let turn = length c.self.inside.history.entries + 1 in
    let new = c.stop_each.new.scenarios in
    let follow : AllFollow c.self.inside.scenarios.items new (Control Stop) c.args.reading =
    subst (λ (l : List ExecutorState). AllFollow l new (Control Stop) c.args.reading) c.deref_mut.ensures.value c.stop_each.ensures in
    let items = with_items_is c.self.inside.scenarios new (follow.count ∙ sym c.self.inside.scenarios.ok.0) in
    core_behind c.self.inside c.self.inside.pool _ true _ _ c.self.invariant c.write.ensures.entries c.write.ensures.room refl
    (room_command c.self.inside.plan.plan (state_behind c.self.inside) Stop c.args.reading)
    (subst (λ (l : List ExecutorState). Shows c.self.inside.plan.plan c.self.inside.pool l true (state_noted c.self.inside turn c.args.thread c.args.reading (Control Stop))) (sym items)
    (shows_stopped c.self.invariant.shows turn c.args.thread c.args.reading new follow room))
