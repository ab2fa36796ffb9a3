use Rattle.std.proofs.Common.{◌∙◌, arith}
use Rattle.ld_stripe.proofs.PlaceLemmas.{passed_period, share_other}
use Rattle.ld_stripe.proofs.pattern.next_owned.Goals as goal

pub loop-index-preserved : goal.loop-index-preserved
loop-index-preserved c = share_other c.args.owners.now c.args.position c.loop-index.index c.if-owners-index.false ∙ c.loop-index.invariant

pub unreachable-requires : goal.unreachable-requires
unreachable-requires c =
    let past = c.loop-index-test.false in
    let none = passed_period _ _ c.requires.striping c.args.position c.args.from c.loop-index.index (omega arith) c.loop-index.invariant in
    omega arith
