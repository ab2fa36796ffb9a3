use Rattle.std.proofs.Common.{arith}
use Rattle.ld_summary.proofs.PlanTextLemmas.{all_told, lent_at, lent_inside, one_scenario_more}
use Rattle.ld_summary.proofs.ScenarioLemmas.{grows_more, on_err}
use Rattle.ld_summary.proofs.plan_lines.put_scenarios.Goals as goal

pub bounds-scenarios-number : goal.bounds-scenarios-number
bounds-scenarios-number c =
    let count = c.scenarios-number-end.ensures.count in
    let below = c.loop-number-test.true in
    let end = c.loop-number.auto.number-end in
    lent_inside c.args.plan.now c.options.result.now c.as_slice-scenarios.result.now c.loop-number.number c.options.ensures.made
    (c.options.ensures.options, c.as_slice-scenarios.ensures.list) (omega arith)

pub put_scenario-requires-clause-asked : goal.put_scenario-requires-clause-asked
put_scenario-requires-clause-asked c =
    let count = c.scenarios-number-end.ensures.count in
    let below = c.loop-number-test.true in
    let end = c.loop-number.auto.number-end in
    lent_at c.args.plan.now c.options.result.now c.as_slice-scenarios.result.now c.loop-number.number c.index-scenarios-number.result c.options.ensures.made
    (c.options.ensures.options, c.as_slice-scenarios.ensures.list) (omega arith) c.index-scenarios-number.is

pub returns-in_err-put_scenario-clause-err : goal.returns-in_err-put_scenario-clause-err
returns-in_err-put_scenario-clause-err c =
    on_err c.from_residual.result
    (grows_more c.args.into.now.items c.loop-number.into.items c.put_scenario.new.into.items _ c.loop-number.invariant c.in_err-put_scenario.ensures.err)

pub loop-number-preserved : goal.loop-number-preserved
loop-number-preserved c =
    let count = c.scenarios-number-end.ensures.count in
    let below = c.loop-number-test.true in
    let end = c.loop-number.auto.number-end in
    let at =
    lent_at c.args.plan.now c.options.result.now c.as_slice-scenarios.result.now c.loop-number.number c.index-scenarios-number.result c.options.ensures.made
    (c.options.ensures.options, c.as_slice-scenarios.ensures.list) (omega arith) c.index-scenarios-number.is in
    one_scenario_more c.args.listed c.args.plan.now c.loop-number.number c.index-scenarios-number.result _ _ _ at c.loop-number.invariant
    c.in_ok-put_scenario.ensures.ok

pub returns-clause-ok : goal.returns-clause-ok
returns-clause-ok c =
    let count = c.scenarios-number-end.ensures.count in
    let end = c.loop-number.auto.number-end in
    let past = c.loop-number-test.false in
    all_told c.args.listed c.args.plan.now c.loop-number.number _ _ c.options.ensures.made (omega arith) c.loop-number.invariant
