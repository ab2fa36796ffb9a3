-- Which scenario of the machine a state shows, whichever its executor is: an arm for each.
use Rattle.std.specs.Prelude.{◌≡◌, ℕ, Bool, Some, slice_get}
use Rattle.ld_base.specs.declared.act.Act.{Act}
use Rattle.ld_machine.specs.Plan.{Part, Plan}
use Rattle.ld_machine.specs.Scenario.{Scenario}
use Rattle.ld_machine.specs.ShareEffect.{share_after}
use Rattle.ld_machine.specs.State.{Controls, opening_share}
use Rattle.ld_machine.specs.Told.{MayBeTold}
use Rattle.ld_iters.specs.Shows as iters
use Rattle.ld_rates.specs.Shows as rates
use Rattle.ld_executor.specs.declared.executor_state.ExecutorState.{ExecutorState}
use Rattle.ld_executor.specs.declared.executor_state.ExecutorState.TheVariants.{Iters, Rates}

-- the state shows the scenario
abbrev pub Shows : ExecutorState → Scenario → Type 0
Shows (Iters state) s = iters.Shows state s
Shows (Rates state) s = rates.Shows state s

-- whether the scenario is closed, as the state keeps it
abbrev pub closed_of : ExecutorState → Bool
closed_of (Iters state) = iters.closed_of state
closed_of (Rates state) = state.course.closed

-- the act may be told: the state shows some scenario that may be told of it
abbrev pub MayTell : ExecutorState → Act → Type 0
MayTell state act = (s : Scenario) × Shows state s × MayBeTold s act

-- whichever scenario the old state shows that may be told of the act, the new one shows what the act, by any thread, makes
-- of it
abbrev pub Follows : ExecutorState → ExecutorState → Act → ℕ → Type 0
Follows old new act reading =
    (s : Scenario) (thread : ℕ) → Shows old s → MayBeTold s act → Shows new (record s { share = share_after s.part thread reading act s.share })

-- the state shows the scenario of a number of a plan before anything was done
abbrev pub ShowsOpening : Plan → ℕ → ExecutorState → Type 0
ShowsOpening plan n state = (part : Part) (controls : Controls) → slice_get plan.parts n ≡ Some part →
    Shows state (record { part = part; share = opening_share; controls = controls })
