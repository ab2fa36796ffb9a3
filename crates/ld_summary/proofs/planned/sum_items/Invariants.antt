use Rattle.std.proofs.Common.{◌≡◌, ◌≤◌, ◌*◌, take}
use Rattle.std.specs.Prelude.{sum_by}
use Rattle.ld_summary.specs.Planned.{owned_in}
use Rattle.ld_summary.proofs.planned.sum_items.Given as goal

abbrev pub invariant-loop-plan : goal.invariant-loop-plan
invariant-loop-plan l =
    record {
      items : l.items ≡ sum_by (owned_in l.scenario) (take l.plan-index l.plans);
      below : l.items ≤ 400000 * l.plan-index;
    }
