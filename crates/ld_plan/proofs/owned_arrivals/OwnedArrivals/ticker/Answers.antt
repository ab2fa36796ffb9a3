use Rattle.std.proofs.Common.{◌∙◌, map, ap, sym}
use Rattle.ld_arrival.specs.Schedule.{owned_pairs, schedule}
use Rattle.ld_arrival.specs.Timetable.{Timetable}
use Rattle.ld_stripe.specs.Striping.{Striping}
use Rattle.ld_plan.specs.PlanView.{arrival_of}
use Rattle.ld_plan.proofs.owned_arrivals.OwnedArrivals.ticker.Goals as goal

pub returns-clause-arrivals : goal.returns-clause-arrivals
returns-clause-arrivals c =
    let p = c.self.inside in
    rw (sym c.self.view_is)
    (ap (map arrival_of)
    (c.in-Ok.ensures.pairs
    ∙ ap (λ (s : Striping). owned_pairs s.owners p.position (schedule c.in_ok-arrivals.arrivals)) c.in_ok-items.ensures.equal
    ∙ ap (λ (t : Timetable). owned_pairs p.items.owners p.position (schedule t)) c.in_ok-arrivals.ensures))
