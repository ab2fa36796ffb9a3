use Rattle.std.proofs.Common.{arith}
use Rattle.ld_stripe.proofs.StripingLaws.{share_split, share_at_most}
use Rattle.ld_stripe.proofs.pattern.share_of.Goals as goal

pub overflow_add-result : goal.overflow_add-result
overflow_add-result c =
    let split = share_split _ _ c.requires.striping c.args.position c.args.v c.requires.some in
    let most = share_at_most c.args.owners.now c.args.position c.args.v in
    let times = c.times_given.ensures in
    omega arith

pub returns : goal.returns
returns c =
    let split = share_split _ _ c.requires.striping c.args.position c.args.v c.requires.some in
    let times = c.times_given.ensures in
    omega arith
