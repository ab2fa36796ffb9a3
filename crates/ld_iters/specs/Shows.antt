-- Which scenario of the machine a state shows, by its kind.
use Rattle.std.specs.Prelude.{◌≡◌, ℕ, Bool}
use Rattle.ld_base.specs.declared.act.Act.{Act}
use Rattle.ld_iters.specs.ItersPart.{IsPart}
use Rattle.ld_iters.specs.SharedShows as shared
use Rattle.ld_iters.specs.SlotsShows as slots
use Rattle.ld_iters.specs.declared.iters_part.ItersPart.{ItersPart}
use Rattle.ld_iters.specs.declared.iters_state.ItersState.{ItersState}
use Rattle.ld_iters.specs.declared.iters_state.ItersState.TheVariants.{Shared, Slots}
use Rattle.ld_machine.specs.Scenario.{Scenario}
use Rattle.ld_machine.specs.ShareEffect.{share_after}
use Rattle.ld_machine.specs.State.{opening_share}
use Rattle.ld_machine.specs.Told.{MayBeTold}

-- the state shows the scenario
abbrev pub Shows : ItersState → Scenario → Type 0
Shows (Shared state) s = shared.Shows state s
Shows (Slots state) s = slots.Shows state s

-- whether the scenario is closed, as the state keeps it
abbrev pub closed_of : ItersState → Bool
closed_of (Shared state) = state.course.closed
closed_of (Slots state) = state.course.closed

-- the state shows every scenario that is at its opening and has this part
abbrev pub ShowsOpening : ItersPart → ItersState → Type 0
ShowsOpening part state = (s : Scenario) → s.share ≡ opening_share → IsPart part s.part → Shows state s

-- whichever scenario the old state shows: where that may be told of the act, the new state shows what the act, by any
-- thread, makes of it
abbrev pub Follows : ItersState → ItersState → Act → ℕ → Type 0
Follows old new act reading =
    (s : Scenario) (thread : ℕ) → Shows old s → MayBeTold s act → Shows new (record s { share = share_after s.part thread reading act s.share })
