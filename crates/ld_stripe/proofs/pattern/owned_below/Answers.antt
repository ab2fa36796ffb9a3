use Rattle.ld_stripe.proofs.PlaceLemmas.{passed_more, passed_all}
use Rattle.ld_stripe.proofs.pattern.owned_below.Goals as goal

pub loop-index-preserved : goal.loop-index-preserved
loop-index-preserved c = passed_more _ _ _ _ _ c.loop-index.invariant c.loop-index-test.true c.if-owners-index.false

pub returns-clause-same : goal.returns-clause-same
returns-clause-same c =
    let ended = c.loop-index-test.false in
    passed_all _ _ c.requires.striping c.requires.some _ _ _ _ c.saturating_sub-low.ensures c.loop-index.invariant ended
