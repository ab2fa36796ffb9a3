use Rattle.std.proofs.Common.{arith}
use Rattle.ld_stripe.proofs.PlaceLemmas.{place_next}
use Rattle.ld_stripe.proofs.StripingLaws.{share_at_most}
use Rattle.ld_stripe.proofs.segmented_index.SegmentedIndex.next.Goals as goal

pub overflow_add-self : goal.overflow_add-self
overflow_add-self c =
    let most = share_at_most c.args.stripe.now.owners c.args.position c.args.self.now.unscaled in
    let counted = c.requires.place.counted in
    omega arith

pub returns-clause-place : goal.returns-clause-place
returns-clause-place c =
    let owned = rw c.owners.ensures at c.next_owned-index.ensures.owned in
    let least = rw c.owners.ensures at c.next_owned-index.ensures.least in
    place_next _ _ _ _ _ c.requires.place owned least
