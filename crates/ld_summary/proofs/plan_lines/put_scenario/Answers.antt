use Rattle.std.proofs.lemmas.Result.{on_err_weaker, on_ok_weaker}
use Rattle.ld_summary.specs.PlanText.{scenario_line}
use Rattle.ld_summary.proofs.PlanTextLemmas.{row_and_items_told, row_told}
use Rattle.ld_summary.proofs.ScenarioLemmas.{grows_more}
use Rattle.ld_summary.proofs.plan_lines.put_scenario.Goals as goal

pub returns-then-listed-clause-ok : goal.returns-then-listed-clause-ok
returns-then-listed-clause-ok c =
    on_ok_weaker c.put_arrivals.result
    (λ told.
    row_and_items_told _ c.args.listed c.args.scenario.now c.row.result c.args.into.now.items c.put_row.new.into.items c.put_arrivals.new.into.items
    c.if-listed.true c.row.ensures c.in_ok-put_row.ensures.ok told)
    c.put_arrivals.ensures.ok

pub returns-then-listed-clause-err : goal.returns-then-listed-clause-err
returns-then-listed-clause-err c =
    on_err_weaker c.put_arrivals.result
    (grows_more c.args.into.now.items c.put_row.new.into.items c.put_arrivals.new.into.items (scenario_line c.args.scenario.now c.row.result) c.in_ok-put_row.ensures.ok)
    c.put_arrivals.ensures.err

pub returns-else-listed-clause-ok : goal.returns-else-listed-clause-ok
returns-else-listed-clause-ok c =
    row_told _ c.args.listed c.args.scenario.now c.row.result c.args.into.now.items c.put_row.new.into.items c.if-listed.false c.row.ensures
    c.in_ok-put_row.ensures.ok
