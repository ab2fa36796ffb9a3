use Rattle.ld_core.proofs.AskLemmas.{room_alone}
use Rattle.ld_core.proofs.OtherLemmas.{denied_again, stop_noted, stop_refused}
use Rattle.ld_core.proofs.machine.Core.control_stop.Goals as goal

pub returns-then-self : goal.returns-then-self
returns-then-self c = denied_again c.self.inside c.self.invariant c.args.self.now c.self.view_is c.args.thread c.args.reading c.if-self.true

pub returns-in-Some : goal.returns-in-Some
returns-in-Some c = stop_refused c.self.inside c.self.invariant c.args.self.now c.self.view_is c.args.thread c.args.reading c.if-self.false c.in-Some.full c.in-Some.ensures

pub stop_all-requires : goal.stop_all-requires
stop_all-requires c = record { room = room_alone c.args.self.now 1 0 c.in-None.ensures }

pub returns-in-None : goal.returns-in-None
returns-in-None c =
    stop_noted c.self.inside c.self.invariant c.args.self.now c.stop_all.new.self c.self.view_is c.args.thread c.args.reading c.if-self.false c.in-None.ensures c.stop_all.ensures.added
