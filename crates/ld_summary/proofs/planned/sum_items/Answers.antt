use Rattle.std.proofs.Common.{arith}
use Rattle.ld_summary.proofs.PlannedLemmas.{items_more, owned_is, owned_none}
use Rattle.ld_summary.proofs.planned.sum_items.Goals.{then-scenario-scenarios, else-scenario-scenarios}
use Rattle.ld_summary.proofs.planned.sum_items.Goals as goal

pub loop-plan-preserved : goal.loop-plan-preserved
loop-plan-preserved c =
    let seen = c.plan-item.result in
    let n = c.args.scenario in
    let before = c.loop-plan.invariant.items in
    let below = c.loop-plan.invariant.below in
    elim c.if-scenario-scenarios.branch [
      | then-scenario-scenarios w ↦
          let owned = owned_is n seen w.owned-items.result w.owned-items.ensures.owned in
          let few = w.owned-items.ensures.few in
          let sum = w.items-is in
          record {
            items = items_more n c.args.plans.now c.loop-plan.plan-index seen c.loop-plan.items c.if-scenario-scenarios.items c.loop-plan-test.true c.plan-item.is before (omega arith);
            below = omega arith;
          }
      | else-scenario-scenarios w ↦
          let count = c.scenarios.ensures.count in
          let past = w.if-scenario-scenarios.false in
          let none = owned_none n seen (omega arith) in
          let same = w.items-is in
          record {
            items = items_more n c.args.plans.now c.loop-plan.plan-index seen c.loop-plan.items c.if-scenario-scenarios.items c.loop-plan-test.true c.plan-item.is before (omega arith);
            below = omega arith;
          }
    ]
