use Rattle.ld_json.proofs.OrderLemmas.{entries_ascend}
use Rattle.ld_json.proofs.known.first_unknown.Goals as goal

pub returns-then-not-is_one_of-clause-order : goal.returns-then-not-is_one_of-clause-order
returns-then-not-is_one_of-clause-order c = entries_ascend _ c.iter-key-items.ensures.ordered

pub returns-clause-order : goal.returns-clause-order
returns-clause-order c = entries_ascend _ c.iter-key-items.ensures.ordered
