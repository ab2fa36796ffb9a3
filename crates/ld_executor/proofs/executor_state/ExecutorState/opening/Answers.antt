use Rattle.std.proofs.Common.{refl, rules}
use Rattle.ld_executor.proofs.StateLemmas.{opened}
use Rattle.ld_executor.proofs.executor_state.ExecutorState.opening.Goals as goal

pub returns-in-Rates-clause-shows : goal.returns-in-Rates-clause-shows
returns-in-Rates-clause-shows c =
    opened c.args.plan.now.plan c.args.number c.row-row.result c.grace.result c.in_ok-users.field-0 _ c.in_ok-new-in-Rates.field-0
    c.in_ok-new-in-Rates.ensures.opens c.row-row.ensures c.grace.ensures c.in_ok-users.ensures.owned c.in_ok-users.ensures.distinct
    (search rules) refl refl refl
