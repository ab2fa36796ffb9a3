use Rattle.std.proofs.Common.{refl}
use Rattle.ld_base.specs.declared.act.Act.TheVariants as acts
use Rattle.ld_iters.proofs.SlotsApplyLemmas.{controlled, counted_late, dropped, ends_none, started}
use Rattle.ld_iters.proofs.slot_iters.SlotIters.end_item.Goals as goal

pub returns-in-Take : goal.returns-in-Take
returns-in-Take c s thread reading shows =
    ends_none c.args.self.now s shows thread reading c.args.act.now (acts.Take c.in-Take.scenario c.in-Take.user c.in-Take.slot) c.in-Take.is refl

pub returns-in-Grow : goal.returns-in-Grow
returns-in-Grow c s thread reading shows =
    ends_none c.args.self.now s shows thread reading c.args.act.now (acts.Grow c.in-Grow.scenario c.in-Grow.user c.in-Grow.slot) c.in-Grow.is refl

pub returns-in-Start : goal.returns-in-Start
returns-in-Start c s thread reading shows =
    started c.args.self.now s shows _ thread reading c.args.act.now c.in-Start.scenario c.in-Start.user c.in-Start.item c.in-Start.until c.in-Start.is c.start.ensures

pub returns-in-Drop : goal.returns-in-Drop
returns-in-Drop c s thread reading shows =
    dropped c.args.self.now s shows _ thread reading c.args.act.now c.in-Drop.scenario c.in-Drop.item c.in-Drop.is c.give_up.ensures

pub returns-in-Late : goal.returns-in-Late
returns-in-Late c s thread reading shows =
    counted_late c.args.self.now s shows _ thread reading c.args.act.now c.in-Late.scenario c.in-Late.item c.in-Late.is c.give_up-in-Late.ensures

pub returns-in-Return : goal.returns-in-Return
returns-in-Return c s thread reading shows =
    ends_none c.args.self.now s shows thread reading c.args.act.now
    (acts.Return c.in-Return.scenario c.in-Return.user c.in-Return.item c.in-Return.outcome c.in-Return.tally) c.in-Return.is refl

pub returns-in-Release : goal.returns-in-Release
returns-in-Release c s thread reading shows =
    ends_none c.args.self.now s shows thread reading c.args.act.now (acts.Release c.in-Release.scenario c.in-Release.user) c.in-Release.is refl

pub returns-in-Stop : goal.returns-in-Stop
returns-in-Stop c s thread reading shows = ends_none c.args.self.now s shows thread reading c.args.act.now (acts.Stop c.in-Stop.scenario) c.in-Stop.is refl

pub returns-in-Close : goal.returns-in-Close
returns-in-Close c s thread reading shows = ends_none c.args.self.now s shows thread reading c.args.act.now (acts.Close c.in-Close.scenario) c.in-Close.is refl

pub returns-in-Control : goal.returns-in-Control
returns-in-Control c s thread reading shows = controlled c.args.self.now s shows thread reading c.args.act.now c.in-Control.command c.in-Control.is
