use Rattle.ld_pool.proofs.UserLemmas.{counted_none, none_counted}
use Rattle.ld_pool.proofs.laws.none_is_free.Goals as goal

pub returns : goal.returns
returns c users = (counted_none users, none_counted users)
