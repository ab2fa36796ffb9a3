-- What holds of every scenario that a state shows.
use Rattle.std.proofs.Common.{◌≡◌, true, false, ap, refl}
use Rattle.ld_iters.proofs.ShownLemmas.{closed_shown, not_external, users_fitting}
use Rattle.ld_machine.specs.Plan.{Executor, SharedIterations, PerVuIterations, ConstantVus, RampingVus, ArrivalRate, ExternallyControlled, is_external}
use Rattle.ld_machine.specs.Scenario.{Scenario}
use Rattle.ld_machine.specs.Told.{users_fit}
use Rattle.ld_machine.specs.Wishes.{has_arrivals}
use Rattle.ld_rates.specs.RatesView.{RatesView}
use Rattle.ld_executor.specs.Shows.{Shows, closed_of}
use Rattle.ld_executor.specs.declared.executor_state.ExecutorState.{ExecutorState}
use Rattle.ld_executor.specs.declared.executor_state.ExecutorState.TheVariants.{Iters, Rates}

pub shown_fits : (state : ExecutorState) (s : Scenario) → Shows state s → users_fit s.part.executor ≡ true
shown_fits (Iters iters) s shown = users_fitting iters s shown
shown_fits (Rates rate) s shown = shown.fits

arrivals_inside : (e : Executor) → has_arrivals e ≡ true → is_external e ≡ false
arrivals_inside (ArrivalRate pre most arrivals) its = refl
arrivals_inside (SharedIterations users items) its = absurd (cc)
arrivals_inside (PerVuIterations slots items) its = absurd (cc)
arrivals_inside (ConstantVus slots) its = absurd (cc)
arrivals_inside (RampingVus grace slots) its = absurd (cc)
arrivals_inside (ExternallyControlled vus most slots) its = absurd (cc)

pub shown_inside : (state : ExecutorState) (s : Scenario) → Shows state s → is_external s.part.executor ≡ false
shown_inside (Iters iters) s shown = not_external iters s shown
shown_inside (Rates rate) s shown = arrivals_inside s.part.executor shown.rates

pub shown_closed : (state : ExecutorState) (s : Scenario) → Shows state s → closed_of state ≡ s.share.closed
shown_closed (Iters iters) s shown = closed_shown iters s shown
shown_closed (Rates rate) s shown = ap (λ (v : RatesView). v.course.closed) shown.kept
