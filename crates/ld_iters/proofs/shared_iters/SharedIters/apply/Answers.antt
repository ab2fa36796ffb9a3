use Rattle.std.proofs.Common.{rules}
use Rattle.ld_iters.proofs.SharedApplyLemmas.{taken, grown, started, dropped, counted_late, returned, released}
use Rattle.ld_iters.proofs.shared_iters.SharedIters.apply.Goals as goal

pub returns-in-Take : goal.returns-in-Take
returns-in-Take c = record {
  follows = λ s thread shows.
      taken c.args.self.now _ c.apply.new.self c.args.reading s thread shows c.args.act.now c.in-Take.scenario c.in-Take.user c.in-Take.slot c.in-Take.is
      (search rules) (search rules);
}

pub returns-in-Grow : goal.returns-in-Grow
returns-in-Grow c = record {
  follows = λ s thread shows.
      grown c.args.self.now _ c.apply.new.self c.args.reading s thread shows c.args.act.now c.in-Grow.scenario c.in-Grow.user c.in-Grow.slot c.in-Grow.is
      (search rules) (search rules);
}

pub returns-in-Start : goal.returns-in-Start
returns-in-Start c = record {
  follows = λ s thread shows.
      started c.args.self.now _ c.apply.new.self c.args.reading s thread shows c.args.act.now c.in-Start.scenario c.in-Start.user c.in-Start.item c.in-Start.until c.in-Start.is
      (search rules) (search rules);
}

pub returns-in-Drop : goal.returns-in-Drop
returns-in-Drop c = record {
  follows = λ s thread shows.
      dropped c.args.self.now _ c.apply.new.self c.args.reading s thread shows c.args.act.now c.in-Drop.scenario c.in-Drop.item c.in-Drop.is
      (search rules) (search rules);
}

pub returns-in-Late : goal.returns-in-Late
returns-in-Late c = record {
  follows = λ s thread shows.
      counted_late c.args.self.now _ c.apply.new.self c.args.reading s thread shows c.args.act.now c.in-Late.scenario c.in-Late.item c.in-Late.is
      (search rules) (search rules);
}

pub returns-in-Return : goal.returns-in-Return
returns-in-Return c = record {
  follows = λ s thread shows.
      returned c.args.self.now _ c.apply.new.self c.args.reading s thread shows c.args.act.now c.in-Return.scenario c.in-Return.user c.in-Return.item c.in-Return.outcome
      c.in-Return.tally c.in-Return.is (search rules) (search rules);
}

pub returns-in-Release : goal.returns-in-Release
returns-in-Release c = record {
  follows = λ s thread shows.
      released c.args.self.now _ c.apply.new.self c.args.reading s thread shows c.args.act.now c.in-Release.scenario c.in-Release.user c.in-Release.is
      (search rules) (search rules);
}
