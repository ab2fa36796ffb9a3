use Rattle.std.proofs.Common.{◌+◌, List, subst, sym}
use Rattle.ld_executor.specs.declared.executor_state.ExecutorState.{ExecutorState}
use Rattle.ld_core.proofs.OpeningLemmas.{OpenedTo, opened_next}
use Rattle.ld_core.proofs.opening.opening_scenarios.Goals as goal

pub loop-number-preserved : goal.loop-number-preserved
loop-number-preserved c =
    subst (λ (l : List ExecutorState). OpenedTo c.args.plan.now.plan l (c.loop-number.number + 1)) (sym c.in-Ok.ensures.items)
    (opened_next c.args.plan.now.plan c.loop-number.scenarios.items c.loop-number.number c.in_ok-scenario.scenario c.loop-number.invariant c.in_ok-scenario.ensures.shows)
