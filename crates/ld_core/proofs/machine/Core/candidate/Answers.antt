use Rattle.std.proofs.Common.{List, length, slice_get, Some, subst, ◌≡◌, ◌≤◌}
use Rattle.ld_executor.specs.declared.executor_state.ExecutorState.{ExecutorState}
use Rattle.ld_core.proofs.FirstLemmas.{candidate_step, candidate_whole, kept_read}
use Rattle.ld_core.proofs.machine.Core.candidate.Goals as goal

pub loop-scenario-preserved : goal.loop-scenario-preserved
loop-scenario-preserved c =
    candidate_step c.self.inside c.self.invariant c.args.self.now c.self.view_is c.args.reading c.loop-scenario.scenario-index c.scenario-item.result c.loop-scenario.least c.candidate.result c.lesser-least.result
    (subst (λ (l : List ExecutorState). slice_get l c.loop-scenario.scenario-index ≡ Some c.scenario-item.result) c.deref-scenario-items.ensures.value
    (kept_read c.deref-scenario-items.result.now c.loop-scenario.scenario-index c.scenario-item.result c.loop-scenario-test.true c.scenario-item.is))
    c.loop-scenario.invariant c.candidate.ensures c.lesser-least.ensures

pub returns : goal.returns
returns c =
    candidate_whole c.self.inside c.self.invariant c.args.self.now c.self.view_is c.args.reading c.loop-scenario.scenario-index c.loop-scenario.least
    (subst (λ (l : List ExecutorState). length l ≤ c.loop-scenario.scenario-index) c.deref-scenario-items.ensures.value c.loop-scenario-test.false) c.loop-scenario.invariant
