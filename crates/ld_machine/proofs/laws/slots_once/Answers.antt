use Rattle.std.proofs.Common.{◌≤◌, arith, subst}
use Rattle.ld_machine.specs.State.{opening}
use Rattle.ld_machine.specs.Effect.{state_after}
use Rattle.ld_machine.specs.Slots.{times_slot}
use Rattle.ld_machine.proofs.SlotLemmas.{in_share-at, steps_slots_once, opening_slots}
use Rattle.ld_machine.proofs.laws.slots_once.Goals as goal

pub returns : goal.returns
returns c plan history n slot part share h part_is some stands =
    let once = steps_slots_once plan part n part_is some history (opening plan) h (λ other. let none = opening_slots other n plan.parts in omega arith) slot in
    subst (λ times. times ≤ 1) (in_share-at (times_slot slot) n share (state_after plan history).shares stands) once
