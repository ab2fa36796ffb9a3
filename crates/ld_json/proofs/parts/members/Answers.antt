use Rattle.ld_json.proofs.OrderLemmas.{entries_ascend}
use Rattle.ld_json.proofs.parts.members.Goals as goal

pub returns-in_err-from_slice-clause-order : goal.returns-in_err-from_slice-clause-order
returns-in_err-from_slice-clause-order c = entries_ascend _ c.iter-key-items.ensures.ordered

pub returns-in_err-member-clause-order : goal.returns-in_err-member-clause-order
returns-in_err-member-clause-order c = entries_ascend _ c.iter-key-items.ensures.ordered

pub returns-in-Err-clause-order : goal.returns-in-Err-clause-order
returns-in-Err-clause-order c = entries_ascend _ c.iter-key-items.ensures.ordered

pub returns-clause-order : goal.returns-clause-order
returns-clause-order c = entries_ascend _ c.iter-key-items.ensures.ordered
