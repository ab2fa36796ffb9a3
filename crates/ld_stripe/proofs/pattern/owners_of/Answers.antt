use Rattle.std.proofs.Common.{arith, subst}
use Rattle.ld_stripe.specs.Striping.{IsFirstDue}
use Rattle.ld_stripe.proofs.PatternLemmas.{so_far_more, count_read, count_read_at_most}
use Rattle.ld_stripe.proofs.pattern.owners_of.Goals as goal

pub overflow_add-index_mut : goal.overflow_add-index_mut
overflow_add-index_mut c =
    let so_far = c.loop-index.invariant in
    let long = so_far.long in
    let due = subst (λ owners. IsFirstDue c.args.weights.now owners c.first_due-owner.result) c.deref-in-loop-index.ensures.value c.first_due-owner.ensures in
    let most = count_read_at_most _ _ _ _ _ so_far.are_given due c.index_mut.ensures.value in
    omega arith

pub loop-index-preserved : goal.loop-index-preserved
loop-index-preserved c =
    let so_far = c.loop-index.invariant in
    let due = subst (λ owners. IsFirstDue c.args.weights.now owners c.first_due-owner.result) c.deref-in-loop-index.ensures.value c.first_due-owner.ensures in
    let read = count_read _ _ _ _ _ so_far.are_given due c.index_mut.ensures.value in
    rw (c.in_ok-push.ensures.items, read) (so_far_more _ _ _ _ _ so_far due)
