-- How what a position owns of arrivals is seen, and what holds of its fields.
use Rattle.std.specs.Prelude.{◌<◌, length}
use Rattle.ld_arrival.specs.Limits.{IsWithinLimits}
use Rattle.ld_plan.specs.Executor.{arrival_rate}
use Rattle.ld_plan.specs.OwnedItems.{ArrivalsView}
use Rattle.ld_plan.specs.declared.owned_arrivals.OwnedArrivals.TheInside.{Inside}

abbrev pub arrivals_view : Inside → ArrivalsView
arrivals_view o =
    record {
      executor = arrival_rate o.pre o.max o.arrivals o.items.owners o.position;
      timetable = o.arrivals;
    }

-- the rate of the arrivals is within its limits
pub record AreOwnedArrivals (o : Inside) : Type 0 where
  pub limits : IsWithinLimits o.arrivals
  pub position : o.position < length o.items.weights
