-- A legal history without a commanded stop, behind which every scenario is closed, is settled.
use Rattle.std.proofs.Common.{◌≡◌, true, false, List, refl}
use Rattle.ld_base.specs.declared.entry.Entry.{Entry}
use Rattle.ld_machine.specs.Plan.{Plan}
use Rattle.ld_machine.specs.State.{all_closed, opening}
use Rattle.ld_machine.specs.Effect.{state_after}
use Rattle.ld_machine.specs.History.{IsLegal}
use Rattle.ld_machine.specs.Settled.{IsSettled, nobody_held, all_returned}
use Rattle.ld_machine.proofs.HolderLemmas.{opening_holds}
use Rattle.ld_machine.proofs.SettlesShareLemmas.{history_running, nobody_there, nobody_times, owned_ended}
use Rattle.ld_machine.proofs.SettlesItemLemmas.{parts_ended}
use Rattle.ld_machine.proofs.SettlesReturnLemmas.{steps_returned}

pub is_settled_where_closed : (plan : Plan) (history : List Entry) → IsLegal plan history → (state_after plan history).stop_commanded ≡ false →
    all_closed (state_after plan history) ≡ true → IsSettled plan history
is_settled_where_closed plan history legal unstopped closed =
    let shares = (state_after plan history).shares in
    let all = history_running plan history legal unstopped in
    let nobody : nobody_held (state_after plan history) ≡ true = nobody_there plan.parts shares all closed in
    let returned : all_returned history ≡ true =
    steps_returned plan history (opening plan) legal (opening_holds plan) (λ user. nobody_times user plan.parts shares all closed) in
    let ended = parts_ended plan history legal (λ n part item stands owned. owned_ended plan.parts shares n part item all closed stands owned) in
    rw (closed, ended, returned, nobody) refl
