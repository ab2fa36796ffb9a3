use Rattle.ld_stripe.proofs.PlaceLemmas.{place_prev}
use Rattle.ld_stripe.proofs.segmented_index.SegmentedIndex.prev.Goals as goal

pub returns-clause-place : goal.returns-clause-place
returns-clause-place c =
    place_prev _ _ _ _ _ c.requires.place c.requires.some
    (rw c.owners.ensures at c.owned_below-self.ensures.owned)
    (rw c.owners.ensures at c.owned_below-self.ensures.same)
