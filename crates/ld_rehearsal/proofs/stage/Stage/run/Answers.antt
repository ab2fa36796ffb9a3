use Rattle.std.proofs.Common.{◌<◌, ◌≤◌, arith}
use Rattle.ld_machine.specs.Moment.{last_moment}
use Rattle.ld_rehearsal.proofs.stage.Stage.run.Goals as goal

pub loop-alloc-smaller : goal.loop-alloc-smaller
loop-alloc-smaller c =
    let later : c.loop-alloc.self.moment < c.round.new.self.moment = c.if-not-round.ensures.round.next.0 in
    let within : c.round.new.self.moment ≤ last_moment = c.if-not-round.ensures.round.next.1 in
    omega arith
