use Rattle.std.proofs.Common.{◌∙◌, sym}
use Rattle.ld_answer.proofs.IndicesLemmas.{line_more, owned-yes, owned-no}
use Rattle.ld_answer.proofs.indices.put_indices.Goals as goal
use Rattle.ld_answer.proofs.indices.put_indices.Goals.{then-owner-position+in_ok-put_item, else-owner-position}

pub loop-index-preserved : goal.loop-index-preserved
loop-index-preserved c =
    let so_far = c.loop-index.invariant in
    elim c.if-owner-position.branch [
      | then-owner-position+in_ok-put_item w ↦
          rw (w.text-is, w.follows-is, owned-yes _ _ _ (sym c.owner.ensures.owner ∙ w.if-owner-position.true), w.in_ok-put_item.ensures) (line_more _ _ _ _ _ so_far)
      | else-owner-position w ↦
          rw (w.text-is, w.follows-is, owned-no _ _ _ (λ e. w.if-owner-position.false (c.owner.ensures.owner ∙ e))) so_far
    ]
