use Rattle.std.proofs.Common.{◌<◌, ◌↔◌, ◌≡◌, ◌∙◌, List, ℕ, subst, sym}
use Rattle.std.specs.Prelude.{Contains}
use Rattle.std.proofs.lemmas.Bool.{eq-eqb, eqb-true}
use Rattle.ld_arrival.specs.Timetable.{planned_count}
use Rattle.ld_stripe.specs.Striping.{owner_at}
use Rattle.ld_plan.specs.OwnedItems.{ArrivalsView}
use Rattle.ld_plan.proofs.OwnedLemmas.{arrival_items, number_owned}
use Rattle.ld_plan.proofs.owned_arrivals.OwnedArrivals.owns.Goals as goal

pub returns : goal.returns
returns c =
    let p = c.self.inside in
    let item = c.args.item in
    let below = subst (λ (o : ArrivalsView). item < planned_count o.timetable) (sym c.self.view_is) c.requires in
    let limits = c.self.invariant.limits in
    let owned =
    subst (λ (items : List ℕ). (owner_at p.items.owners item ≡ p.position) ↔ Contains items item)
    (sym (arrival_items p.arrivals p.items.owners p.position limits))
    (number_owned (owner_at p.items.owners) p.position (planned_count p.arrivals) item below) in
    rw (sym c.self.view_is)
    (λ is. owned.0 (sym c.owner.ensures.owner ∙ eqb-true _ _ is), λ has. eq-eqb _ _ (c.owner.ensures.owner ∙ owned.1 has))
