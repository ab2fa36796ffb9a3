use Rattle.std.proofs.Common.{inl, inr}
use Rattle.ld_machine.specs.State.{opening}
use Rattle.ld_machine.proofs.FrontLemmas.{front_steps}
use Rattle.ld_machine.proofs.laws.fronts.Goals as goal

pub returns : goal.returns
returns c plan front rest h =
    elim (front_steps plan front rest (opening plan) h) [
      | inl whole ↦ inl whole
      | inr inside ↦ inr (record { before = inside.before; one = inside.one; parts = inside.parts; legal = inside.legal; begins = inside.begins })
    ]
