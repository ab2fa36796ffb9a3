use Rattle.std.proofs.Common.{arith, refl}
use Rattle.std.proofs.lemmas.Option.{slice_get_read}
use Rattle.ld_summary.proofs.ScenarioLemmas.{all_scenarios, grows_more, on_err, scenario_added}
use Rattle.ld_summary.proofs.text.put_scenarios.Goals as goal

pub loop-scenario-preserved : goal.loop-scenario-preserved
loop-scenario-preserved c =
    let plans = c.args.plans.now in
    let first = c.index-plans-0.result in
    scenario_added plans c.args.histories.now first c.loop-scenario.scenario c.args.into.now.items c.loop-scenario.into.items c.put_scenario.new.into.items
    c.as_slice-name.result.now c.sum_items-planned.result c.of-counts.result
    (slice_get_read plans _ 0 first refl c.requires.some c.index-plans-0.is)
    (rw (c.as_slice-name.ensures) c.name.ensures) c.sum_items-planned.ensures c.of-counts.ensures c.loop-scenario.invariant c.in_ok-put_scenario.ensures.ok

pub returns-in_err-put_scenario-clause-err : goal.returns-in_err-put_scenario-clause-err
returns-in_err-put_scenario-clause-err c =
    on_err c.from_residual.result (grows_more c.args.into.now.items c.loop-scenario.into.items c.put_scenario.new.into.items _ c.loop-scenario.invariant c.in_err-put_scenario.ensures.err)

pub returns-clause-ok : goal.returns-clause-ok
returns-clause-ok c =
    let plans = c.args.plans.now in
    let first = c.index-plans-0.result in
    let whole = c.scenarios-scenario-end.ensures.whole in
    let end = c.loop-scenario.auto.scenario-end in
    let past = c.loop-scenario-test.false in
    all_scenarios plans c.args.histories.now first c.loop-scenario.scenario c.args.into.now.items c.loop-scenario.into.items
    (slice_get_read plans _ 0 first refl c.requires.some c.index-plans-0.is) (omega arith) c.loop-scenario.invariant
