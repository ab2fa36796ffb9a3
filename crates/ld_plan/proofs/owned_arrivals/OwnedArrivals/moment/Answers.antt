use Rattle.std.proofs.Common.{◌∙◌, ap, sym}
use Rattle.ld_arrival.specs.Timetable.{moment_of}
use Rattle.ld_plan.proofs.OwnedLemmas.{owned_moment}
use Rattle.ld_plan.proofs.owned_arrivals.OwnedArrivals.moment.Goals as goal

pub returns-clause-due : goal.returns-clause-due
returns-clause-due c =
    let limits = c.self.invariant.limits in
    rw (sym c.self.view_is)
    (record {
      due = λ a has is.
          let moment = owned_moment c.self.inside.arrivals c.self.inside.items.owners c.self.inside.position limits a has in
          c.moment.ensures.moment ∙ sym (moment ∙ ap (moment_of c.self.inside.arrivals) is);
    })
