use Rattle.ld_json.proofs.OrderLemmas.{pairs_ascend}
use Rattle.ld_script.proofs.members.members_of.Goals as goal

pub returns-clause-ordered : goal.returns-clause-ordered
returns-clause-ordered c = pairs_ascend c.args.node.now c.in_ok-members.members.items c.in_ok-members.ensures.order c.in_ok-members.ensures.ok
