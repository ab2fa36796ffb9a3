use Rattle.ld_core.proofs.RoomLemmas.{refusal_shown, room_shown}
use Rattle.ld_core.proofs.machine.Core.full.Goals as goal

pub returns-then-needed-limit : goal.returns-then-needed-limit
returns-then-needed-limit c =
    refusal_shown c.self.inside c.self.invariant c.args.self.now c.self.view_is c.len.result c.busy_count.result c.entries-limit.result c.args.added c.args.busy
    c.len.ensures.count c.busy_count.ensures.count c.entries-limit.ensures.entries c.if-needed-limit.true

pub returns : goal.returns
returns c =
    room_shown c.self.inside c.self.invariant c.args.self.now c.self.view_is c.len.result c.busy_count.result c.entries-limit.result c.args.added c.args.busy
    c.len.ensures.count c.busy_count.ensures.count c.entries-limit.ensures.entries c.if-needed-limit.false
