use Rattle.std.proofs.Common.{◌<◌, ◌∙◌, subst, sym}
use Rattle.std.proofs.lemmas.Bool.{eq-eqb, eqb-true}
use Rattle.ld_stripe.specs.Striping.{owner_at}
use Rattle.ld_plan.specs.OwnedItems.{ItemsView}
use Rattle.ld_plan.proofs.OwnedLemmas.{number_owned}
use Rattle.ld_plan.proofs.owned_iterations.OwnedIterations.owns.Goals as goal

pub returns : goal.returns
returns c =
    let o = c.self.inside in
    let item = c.args.item in
    let below = subst (λ (v : ItemsView). item < v.whole_items) (sym c.self.view_is) c.requires in
    let owned = number_owned (owner_at o.items.owners) o.position o.iterations item below in
    rw (sym c.self.view_is)
    (λ is. owned.0 (sym c.owner.ensures.owner ∙ eqb-true _ _ is), λ has. eq-eqb _ _ (c.owner.ensures.owner ∙ owned.1 has))
