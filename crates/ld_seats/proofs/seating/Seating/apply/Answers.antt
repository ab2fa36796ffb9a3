use Rattle.ld_seats.proofs.ApplyLemmas.{closed, controlled, counted_late, dropped, grew, released, returned, started, stopped, took}
use Rattle.ld_seats.proofs.seating.Seating.apply.Goals as goal

pub returns-in-Take : goal.returns-in-Take
returns-in-Take c = record {
  follows = λ s thread reading sits.
      took c.args.self.now _ s thread reading sits c.args.act.now c.in-Take.scenario c.in-Take.user c.in-Take.slot c.in-Take.is c.seat.ensures;
}

pub returns-in-Grow : goal.returns-in-Grow
returns-in-Grow c = record {
  follows = λ s thread reading sits.
      grew c.args.self.now _ s thread reading sits c.args.act.now c.in-Grow.scenario c.in-Grow.user c.in-Grow.slot c.in-Grow.is c.seat-in-Grow.ensures;
}

pub returns-in-Start : goal.returns-in-Start
returns-in-Start c = record {
  follows = λ s thread reading sits.
      started c.args.self.now _ s thread reading sits c.args.act.now c.in-Start.scenario c.in-Start.user c.in-Start.item c.in-Start.until c.in-Start.is c.start.ensures;
}

pub returns-in-Drop : goal.returns-in-Drop
returns-in-Drop c = record {
  follows = λ s thread reading sits. dropped c.args.self.now s thread reading sits c.args.act.now c.in-Drop.scenario c.in-Drop.item c.in-Drop.is;
}

pub returns-in-Late : goal.returns-in-Late
returns-in-Late c = record {
  follows = λ s thread reading sits. counted_late c.args.self.now s thread reading sits c.args.act.now c.in-Late.scenario c.in-Late.item c.in-Late.is;
}

pub returns-in-Return : goal.returns-in-Return
returns-in-Return c = record {
  follows = λ s thread reading sits.
      returned c.args.self.now _ s thread reading sits c.args.act.now c.in-Return.scenario c.in-Return.user c.in-Return.item c.in-Return.outcome c.in-Return.tally c.in-Return.is c.rest.ensures;
}

pub returns-in-Release : goal.returns-in-Release
returns-in-Release c = record {
  follows = λ s thread reading sits.
      released c.args.self.now _ s thread reading sits c.args.act.now c.in-Release.scenario c.in-Release.user c.in-Release.is c.let_go.ensures;
}

pub returns-in-Stop : goal.returns-in-Stop
returns-in-Stop c = record {
  follows = λ s thread reading sits. stopped c.args.self.now s thread reading sits c.args.act.now c.in-Stop.scenario c.in-Stop.is;
}

pub returns-in-Close : goal.returns-in-Close
returns-in-Close c = record {
  follows = λ s thread reading sits. closed c.args.self.now s thread reading sits c.args.act.now c.in-Close.scenario c.in-Close.is;
}

pub returns-in-Control : goal.returns-in-Control
returns-in-Control c = record {
  follows = λ s thread reading sits. controlled c.args.self.now s thread reading sits c.args.act.now c.in-Control.command c.in-Control.is;
}
