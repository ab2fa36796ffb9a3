use Rattle.ld_pool.proofs.UserLemmas.{count-with_user}
use Rattle.ld_pool.proofs.laws.changes_are_counted.Goals as goal

pub returns : goal.returns
returns c users number before after kind is = count-with_user kind users number before after is
