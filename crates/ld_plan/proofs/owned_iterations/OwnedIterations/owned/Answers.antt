use Rattle.std.proofs.Common.{◌∙◌, arith, sym}
use Rattle.ld_stripe.proofs.StripingLaws.{share_at_most}
use Rattle.ld_plan.proofs.OwnedLemmas.{indices_length}
use Rattle.ld_plan.proofs.owned_iterations.OwnedIterations.owned.Goals as goal

pub returns-clause-owned : goal.returns-clause-owned
returns-clause-owned c =
    let o = c.self.inside in
    rw (sym c.self.view_is) (c.share.ensures.share ∙ sym (indices_length o.items.owners o.position o.iterations))

pub returns-clause-few : goal.returns-clause-few
returns-clause-few c =
    let o = c.self.inside in
    let share = c.share.ensures.share in
    let few = c.self.invariant.few in
    let most = share_at_most o.items.owners o.position o.iterations in
    omega arith
