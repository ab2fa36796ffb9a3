use Rattle.std.proofs.Common.{◌≡◌, ◌++◌}
use Rattle.std.specs.List.{concat}
use Rattle.ld_line.specs.Line.{Grows}
use Rattle.ld_machine.specs.Plan.{Part}
use Rattle.ld_plan.specs.PlanView.{Whole}
use Rattle.ld_summary.proofs.PlanTextLemmas.{IsAt, lines_below}
use Rattle.ld_summary.proofs.plan_lines.put_arrivals.Given as goal

abbrev pub invariant-loop-item : goal.invariant-loop-item
invariant-loop-item l =
    record {
      told : (part : Part) (whole : Whole) → IsAt l.plan l.number part whole →
          l.into.items ≡ l.fn.into.items ++ concat (lines_below part whole.timetable l.item);
      grows : Grows l.fn.into.items l.into.items;
    }
