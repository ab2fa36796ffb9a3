use Rattle.std.proofs.Common.{arith}
use Rattle.ld_stripe.proofs.StripingLaws.{share_at_most}
use Rattle.ld_plan.proofs.striping.share_of.Goals as goal

pub overflow_cast-result : goal.overflow_cast-result
overflow_cast-result c =
    let share = c.share.ensures.share in
    let most = share_at_most c.args.positions.now.owners c.args.position c.args.users in
    let fits = c.ranges.users.fits in
    omega arith
