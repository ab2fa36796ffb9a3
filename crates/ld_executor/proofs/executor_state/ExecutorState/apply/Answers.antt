use Rattle.std.proofs.Common.{rules}
use Rattle.ld_executor.proofs.StateLemmas.{may_told}
use Rattle.ld_executor.proofs.executor_state.ExecutorState.apply.Goals as goal

pub apply-requires-in-Rates : goal.apply-requires-in-Rates
apply-requires-in-Rates c = search (rules, may_told)
