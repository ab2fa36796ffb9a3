use Rattle.std.proofs.Common.{◌∙◌, arith, ap, length, sym}
use Rattle.ld_stripe.specs.Striping.{share_at}
use Rattle.ld_stripe.proofs.StripingLaws.{share_at_most}
use Rattle.ld_plan.proofs.OwnedLemmas.{arrival_items, indices_length}
use Rattle.ld_plan.proofs.owned_arrivals.OwnedArrivals.owned.Goals as goal

pub returns-clause-owned : goal.returns-clause-owned
returns-clause-owned c =
    let p = c.self.inside in
    rw (sym c.self.view_is)
    (c.share.ensures.share
    ∙ ap (share_at p.items.owners p.position) c.count.ensures.count
    ∙ sym (ap length (arrival_items p.arrivals p.items.owners p.position c.count.ensures.limits) ∙ indices_length p.items.owners p.position _))

pub returns-clause-few : goal.returns-clause-few
returns-clause-few c =
    let share = c.share.ensures.share in
    let few = c.count.ensures.few in
    let most = share_at_most c.self.inside.items.owners c.self.inside.position c.count.result in
    omega arith
