use Rattle.std.proofs.Common.{◌≡◌, None, Some, slice_get, rules}
use Rattle.ld_ramping.proofs.ShownLemmas.{has_user, is_chosen, none_stand}
use Rattle.ld_ramping.proofs.ramping_state.RampingState.idle_user.Goals as goal

pub returns-in_err-slot-clause-none : goal.returns-in_err-slot-clause-none
returns-in_err-slot-clause-none c =
    rw c.from_residual.ensures (λ s h shows idle. none_stand c.args.self.now s shows c.args.on c.args.reading c.in_err-slot.ensures.none h idle)

pub returns-in_err-user-clause-none : goal.returns-in_err-user-clause-none
returns-in_err-user-clause-none c =
    let none : slice_get c.args.self.now.seating.seats.user_of c.in_ok-slot.slot ≡ None = search rules in
    rw c.from_residual-in_err-user.ensures
    (λ s h shows idle. absurd (has_user c.args.self.now s shows c.args.on c.args.reading c.in_ok-slot.slot c.in_ok-slot.ensures.some none))

pub returns-clause-some : goal.returns-clause-some
returns-clause-some c s shows =
    let user : slice_get c.args.self.now.seating.seats.user_of c.in_ok-slot.slot ≡ Some c.in_ok-user.user = search rules in
    is_chosen c.args.self.now s shows c.args.on c.args.reading c.args.prefer c.in_ok-user.user c.in_ok-slot.slot c.in_ok-slot.ensures.some user c.in_ok-slot.ensures.preferred
