use Rattle.ld_pool.proofs.UserLemmas.{kinds_sum}
use Rattle.ld_pool.proofs.laws.users_are_counted.Goals as goal

pub returns : goal.returns
returns c = kinds_sum
