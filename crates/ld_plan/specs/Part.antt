-- How a part is seen.
use Rattle.ld_plan.specs.OwnedItems.{OwnedView, view_of_arrivals, view_of_items}
use Rattle.ld_plan.specs.PartView.{PartView}
use Rattle.ld_plan.specs.PlanView.{Whole}
use Rattle.ld_plan.specs.declared.owned_items.OwnedItems.{OwnedItems}
use Rattle.ld_plan.specs.declared.owned_items.OwnedItems.TheVariants.{Arrivals, Iterations, Slots}
use Rattle.ld_plan.specs.declared.part.Part.TheInside.{Inside}

-- what is owned of a scenario, whichever its executor is
abbrev pub owned_view : OwnedItems → OwnedView
owned_view (Iterations owned) = view_of_items owned
owned_view (Slots owned) = view_of_items owned
owned_view (Arrivals owned) = view_of_arrivals owned

-- the scenario of the whole test
abbrev pub whole_view : Inside → Whole
whole_view p = record { name = p.name; timetable = (owned_view p.owned).timetable }

abbrev pub part_view : Inside → PartView
part_view p =
    record {
      part =
          record {
            begin = p.begin;
            end = p.end;
            grace = p.grace;
            sample_room = p.room;
            whole_items = (owned_view p.owned).whole_items;
            executor = (owned_view p.owned).executor;
          };
      whole = whole_view p;
    }
