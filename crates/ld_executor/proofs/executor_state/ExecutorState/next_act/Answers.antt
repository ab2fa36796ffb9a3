use Rattle.std.proofs.Common.{rules}
use Rattle.ld_executor.proofs.StateLemmas.{at_iterations, at_rate}
use Rattle.ld_executor.proofs.executor_state.ExecutorState.next_act.Goals as goal

pub returns-in-Iters : goal.returns-in-Iters
returns-in-Iters c s shown = c.next_act.ensures s (at_iterations c.args.self.now _ s (search rules) shown)

pub returns-in-Rates : goal.returns-in-Rates
returns-in-Rates c s shown = c.next_act-in-Rates.ensures.first s (at_rate c.args.self.now _ s (search rules) shown)
