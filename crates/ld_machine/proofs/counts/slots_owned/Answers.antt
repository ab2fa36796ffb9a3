use Rattle.std.proofs.Common.{◌==◌, subst}
use Rattle.ld_machine.specs.Plan.{owned_slots}
use Rattle.ld_machine.proofs.ListLemmas.{In, In-from_any, Contains-from_In}
use Rattle.ld_machine.proofs.FirstOfAllLemmas.{In-of}
use Rattle.ld_machine.proofs.BusyLemmas.{same_number}
use Rattle.ld_machine.proofs.SlotsOwnedLemmas.{held_owned}
use Rattle.ld_machine.proofs.counts.slots_owned.Goals as goal

pub returns : goal.returns
returns c plan history n part share h legal part_is some stands held =
    let owned = held_owned plan part n part_is some history share h legal stands (In-of held) in
    let found = In-from_any (λ k. k == h.slot) (owned_slots part.executor) owned in
    Contains-from_In h.slot (subst (λ k. In k (owned_slots part.executor)) (same_number found.0 h.slot found.2) found.1)
