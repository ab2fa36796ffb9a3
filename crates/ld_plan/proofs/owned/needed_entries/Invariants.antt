use Rattle.std.proofs.Common.{◌≡◌, ◌≤◌, ◌*◌, take}
use Rattle.ld_plan.specs.PartView.{parts_of}
use Rattle.ld_plan.specs.PlanFault.{needed_entries}
use Rattle.ld_plan.proofs.owned.needed_entries.Given as goal

abbrev pub invariant-loop-part : goal.invariant-loop-part
invariant-loop-part l =
    record {
      needed : l.needed ≡ needed_entries (parts_of (take l.part-index l.parts));
      below : l.needed ≤ 800001 * l.part-index;
    }
