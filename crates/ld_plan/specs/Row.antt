-- The numbers of one scenario's part.
use Rattle.std.specs.Prelude.{length}
use Rattle.ld_machine.specs.Plan.{Part, hard_moment, owned_items}
use Rattle.ld_machine.specs.Requirement.{owned_users, most_owned_users}
use Rattle.ld_plan.specs.declared.row.Row.{Row}

abbrev pub row_of : Part → Row
row_of part =
    record {
      begin = part.begin;
      end = part.end;
      hard = hard_moment part;
      users = owned_users part.executor;
      max = most_owned_users part.executor;
      items = length (owned_items part.executor);
    }
