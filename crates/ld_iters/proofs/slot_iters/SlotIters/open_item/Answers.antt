use Rattle.ld_iters.proofs.SlotsLemmas.{least_shown}
use Rattle.ld_iters.proofs.slot_iters.SlotIters.open_item.Goals as goal

pub returns : goal.returns
returns c s shows = let least = least_shown c.args.self.now s shows in rw c.least.ensures (rw (← c.self.view_is) at least)
