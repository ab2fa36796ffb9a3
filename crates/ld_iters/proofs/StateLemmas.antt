-- What a state of one kind shows.
use Rattle.std.proofs.Common.{◌≡◌, subst}
use Rattle.ld_iters.specs.SharedShows as shared
use Rattle.ld_iters.specs.SharedShows.{SharedView}
use Rattle.ld_iters.specs.Shows.{Shows}
use Rattle.ld_iters.specs.SlotsShows as slots
use Rattle.ld_iters.specs.SlotsShows.{SlotsView}
use Rattle.ld_iters.specs.declared.iters_state.ItersState.{ItersState}
use Rattle.ld_iters.specs.declared.iters_state.ItersState.TheVariants.{Shared, Slots}
use Rattle.ld_machine.specs.Scenario.{Scenario}

pub at_shared : (state : ItersState) (view : SharedView) (s : Scenario) → state ≡ Shared view → Shows state s → shared.Shows view s
at_shared state view s is shown = subst (λ (it : ItersState). Shows it s) is shown

pub at_slots : (state : ItersState) (view : SlotsView) (s : Scenario) → state ≡ Slots view → Shows state s → slots.Shows view s
at_slots state view s is shown = subst (λ (it : ItersState). Shows it s) is shown
