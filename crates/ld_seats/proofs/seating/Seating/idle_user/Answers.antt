use Rattle.std.proofs.Common.{◌≡◌, None, Some, slice_get, rules}
use Rattle.ld_seats.proofs.ChoiceLemmas.{has_user, is_chosen}
use Rattle.ld_seats.proofs.seating.Seating.idle_user.Goals as goal

pub returns-in_err-user-clause-none : goal.returns-in_err-user-clause-none
returns-in_err-user-clause-none c =
    let none : slice_get c.args.self.now.seats.user_of c.in_ok-slot.slot ≡ None = search rules in
    rw c.from_residual-in_err-user.ensures (λ s h sits idle. absurd (has_user c.args.self.now s sits c.args.which c.in_ok-slot.slot c.in_ok-slot.ensures.some none))

pub returns-clause-some : goal.returns-clause-some
returns-clause-some c s sits =
    let user : slice_get c.args.self.now.seats.user_of c.in_ok-slot.slot ≡ Some c.in_ok-user.user = search rules in
    is_chosen c.args.self.now s sits c.args.which c.args.prefer c.in_ok-user.user c.in_ok-slot.slot c.in_ok-slot.ensures.some user c.in_ok-slot.ensures.preferred
