-- How what a position owns of shared iterations is seen, and what holds of its fields.
use Rattle.std.specs.Prelude.{◌<◌, ◌≤◌, length}
use Rattle.ld_options.specs.Ranges.{most_items}
use Rattle.ld_plan.specs.Executor.{shared_iterations}
use Rattle.ld_plan.specs.OwnedItems.{ItemsView}
use Rattle.ld_plan.specs.declared.owned_iterations.OwnedIterations.TheInside.{Inside}

abbrev pub iterations_view : Inside → ItemsView
iterations_view o =
    record {
      executor = shared_iterations o.users o.iterations o.items.owners o.position;
      whole_items = o.iterations;
    }

-- there are few iterations
pub record AreOwnedIterations (o : Inside) : Type 0 where
  pub few : o.iterations ≤ most_items
  pub position : o.position < length o.items.weights
