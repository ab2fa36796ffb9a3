use Rattle.std.proofs.Common.{◌≡◌, ◌≤◌, ◌*◌, take}
use Rattle.std.specs.Prelude.{sum_by}
use Rattle.ld_summary.specs.Planned.{limit_of, planned_of}
use Rattle.ld_summary.proofs.planned.sum_users.Given as goal

abbrev pub invariant-loop-plan : goal.invariant-loop-plan
invariant-loop-plan l =
    record {
      planned : l.planned ≡ sum_by planned_of (take l.plan-index l.plans);
      limit : l.limit ≡ sum_by limit_of (take l.plan-index l.plans);
      planned_below : l.planned ≤ 1000 * l.plan-index;
      limit_below : l.limit ≤ 1000 * l.plan-index;
    }
