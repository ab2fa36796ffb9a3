-- What an instance owns of a scenario, as the machine has it.
use Rattle.std.specs.Prelude.{◌≤◌, ◌*◌, map}
use Rattle.ld_stripe.specs.Striping.{owned_indices}
use Rattle.ld_machine.specs.Plan.{ArrivalRate, ConstantVus, Executor}
use Rattle.ld_options.specs.Ranges.{most_items, most_users}
use Rattle.ld_plan.specs.Executor.{shared_iterations, slot_iterations}
use Rattle.ld_plan.specs.PlanView.{arrival_of}
use Rattle.ld_plan.specs.declared.owned_part.OwnedPart.{OwnedPart}
use Rattle.ld_plan.specs.declared.owned_part.OwnedPart.TheVariants.{SharedIterations, PerUserIterations, ConstantUsers, Rates}

abbrev pub executor_of : OwnedPart → Executor
executor_of (SharedIterations users stripe position total) = shared_iterations users total stripe.owners position
executor_of (PerUserIterations iterations stripe position total) =
    slot_iterations iterations (owned_indices stripe.owners position total)
executor_of (ConstantUsers stripe position total) = ConstantVus (owned_indices stripe.owners position total)
executor_of (Rates pre max ticker) = ArrivalRate pre max (map arrival_of ticker)

-- the whole test has no more items than 400,000 and no more slots than 1,000, where they are striped
abbrev pub IsSmallPart : OwnedPart → Type 0
IsSmallPart (SharedIterations users stripe position total) = total ≤ most_items
IsSmallPart (PerUserIterations iterations stripe position total) = (total ≤ most_users) × (total * iterations ≤ most_items)
IsSmallPart (ConstantUsers stripe position total) = total ≤ most_users
IsSmallPart (Rates pre max ticker) = Unit {0}
