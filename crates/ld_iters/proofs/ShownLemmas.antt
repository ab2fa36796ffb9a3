-- What holds of every scenario that a state shows, by its kind.
use Rattle.std.proofs.Common.{◌≡◌, true, false}
use Rattle.ld_iters.specs.Shows.{Shows, closed_of}
use Rattle.ld_iters.specs.declared.iters_state.ItersState.{ItersState}
use Rattle.ld_iters.specs.declared.iters_state.ItersState.TheVariants.{Shared, Slots}
use Rattle.ld_iters.proofs.SharedLemmas.{shared_closed, shared_no_arrivals, shared_not_external, shared_users_fit}
use Rattle.ld_iters.proofs.SlotsLemmas.{slots_closed, slots_no_arrivals, slots_not_external, slots_users_fit}
use Rattle.ld_machine.specs.Plan.{is_external}
use Rattle.ld_machine.specs.Scenario.{Scenario}
use Rattle.ld_machine.specs.Told.{users_fit}
use Rattle.ld_machine.specs.Wishes.{has_arrivals}

pub no_arrivals : (state : ItersState) (s : Scenario) → Shows state s → has_arrivals s.part.executor ≡ false
no_arrivals (Shared state) s shown = shared_no_arrivals state s shown
no_arrivals (Slots state) s shown = slots_no_arrivals state s shown

pub users_fitting : (state : ItersState) (s : Scenario) → Shows state s → users_fit s.part.executor ≡ true
users_fitting (Shared state) s shown = shared_users_fit state s shown
users_fitting (Slots state) s shown = slots_users_fit state s shown

pub not_external : (state : ItersState) (s : Scenario) → Shows state s → is_external s.part.executor ≡ false
not_external (Shared state) s shown = shared_not_external state s shown
not_external (Slots state) s shown = slots_not_external state s shown

pub closed_shown : (state : ItersState) (s : Scenario) → Shows state s → closed_of state ≡ s.share.closed
closed_shown (Shared state) s shown = shared_closed state s shown
closed_shown (Slots state) s shown = slots_closed state s shown
