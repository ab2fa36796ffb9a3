use Rattle.std.proofs.Common.{rules}
use Rattle.ld_iters.proofs.StateLemmas.{at_shared, at_slots}
use Rattle.ld_iters.proofs.iters_state.ItersState.next_act.Goals as goal

pub returns-in-Shared : goal.returns-in-Shared
returns-in-Shared c s shown = c.next_act.ensures.first s (at_shared c.args.self.now _ s (search rules) shown)

pub returns-in-Slots : goal.returns-in-Slots
returns-in-Slots c s shown = c.next_act-in-Slots.ensures.first s (at_slots c.args.self.now _ s (search rules) shown)
