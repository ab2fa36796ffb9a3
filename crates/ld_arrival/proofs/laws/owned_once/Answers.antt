use Rattle.ld_arrival.proofs.ScheduleLaws.{owned_whole}
use Rattle.ld_arrival.proofs.laws.owned_once.Goals as goal

pub returns : goal.returns
returns c = λ weights owners striping some. owned_whole owners _ (λ x. (c.one_owner.ensures weights owners striping some x).0)
