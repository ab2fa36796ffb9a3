use Rattle.std.proofs.Common.{false, refl}
use Rattle.ld_base.specs.declared.wish.Wish.TheVariants.{Release, Start}
use Rattle.ld_machine.specs.Moves.{ReleaseUser, StartIteration}
use Rattle.ld_machine.specs.Wishes.{WishesFirst}
use Rattle.ld_machine.specs.WishExamples.{two_idle, two_loops, one_each, two_ramps, two_controlled}
use Rattle.ld_machine.proofs.ListLemmas.{here, there}
use Rattle.ld_machine.proofs.TwoIdleLemmas.{neither_named, not_preferred, told_of_two}
use Rattle.ld_machine.proofs.wish_examples.preferred_wishes.Goals as goal

-- ---- the second user's wish is right

looped : WishesFirst (two_idle two_loops) 0 false 2 (Start 2 1 10 0)
looped n users free =
    told_of_two n users (two_idle two_loops) 0 2 (Start 2 1 10 0) (StartIteration n 1 0 10) (StartIteration n 2 1 10) (StartIteration n 2 1 10) refl refl refl
    (there here) (λ other named stands. refl)

each : WishesFirst (two_idle one_each) 0 false 2 (Start 2 1 10 0)
each n users free =
    told_of_two n users (two_idle one_each) 0 2 (Start 2 1 10 0) (StartIteration n 1 0 10) (StartIteration n 2 1 10) (StartIteration n 2 1 10) refl refl refl
    (there here) (λ other named stands. refl)

ramped : WishesFirst (two_idle two_ramps) 0 false 2 (Start 2 1 10 0)
ramped n users free =
    told_of_two n users (two_idle two_ramps) 0 2 (Start 2 1 10 0) (StartIteration n 1 0 7) (StartIteration n 2 1 10) (StartIteration n 2 1 10) refl refl refl
    (there here) (λ other named stands. refl)

controlled : WishesFirst (two_idle two_controlled) 0 false 2 (Start 2 1 10 0)
controlled n users free =
    told_of_two n users (two_idle two_controlled) 0 2 (Start 2 1 10 0) (StartIteration n 1 0 10) (StartIteration n 2 1 10) (StartIteration n 2 1 10) refl refl refl
    (there here) (λ other named stands. refl)

released : WishesFirst (two_idle two_loops) 10 false 2 (Release 2)
released n users free =
    told_of_two n users (two_idle two_loops) 10 2 (Release 2) (ReleaseUser n 1) (ReleaseUser n 2) (ReleaseUser n 2) refl refl refl (there here)
    (λ other named stands. refl)

-- ---- and the first user's isn't

pub returns-clause-not_looped : goal.returns-clause-not_looped
returns-clause-not_looped c = not_preferred (two_idle two_loops) 0 2 (Start 2 1 10 0) (Start 1 0 10 0) looped refl (λ e. cc)

pub returns-clause-not_each : goal.returns-clause-not_each
returns-clause-not_each c = not_preferred (two_idle one_each) 0 2 (Start 2 1 10 0) (Start 1 0 10 0) each refl (λ e. cc)

pub returns-clause-not_ramped : goal.returns-clause-not_ramped
returns-clause-not_ramped c = not_preferred (two_idle two_ramps) 0 2 (Start 2 1 10 0) (Start 1 0 7 0) ramped refl (λ e. cc)

pub returns-clause-not_controlled : goal.returns-clause-not_controlled
returns-clause-not_controlled c = not_preferred (two_idle two_controlled) 0 2 (Start 2 1 10 0) (Start 1 0 10 0) controlled refl (λ e. cc)

pub returns-clause-not_released : goal.returns-clause-not_released
returns-clause-not_released c = not_preferred (two_idle two_loops) 10 2 (Release 2) (Release 1) released refl (λ e. cc)

-- ---- where neither is preferred, the first user's is right too

pub returns-clause-unpreferred : goal.returns-clause-unpreferred
returns-clause-unpreferred c n users free =
    told_of_two n users (two_idle two_ramps) 0 3 (Start 1 0 7 0) (StartIteration n 1 0 7) (StartIteration n 2 1 10) (StartIteration n 1 0 7) refl refl refl here
    (λ other named stands. absurd (neither_named n users (two_idle two_ramps) 0 3 1 2 0 1 7 10 refl refl (λ e. cc) (λ e. cc) other named stands))
