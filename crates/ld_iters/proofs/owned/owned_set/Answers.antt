use Rattle.std.proofs.Common.{◌≡◌, ◌==◌, true, false, rules}
use Rattle.ld_iters.proofs.OwnedLemmas.{owned_none, owned_one}
use Rattle.ld_stripe.specs.Striping.{owner_at}
use Rattle.ld_iters.proofs.owned.owned_set.Goals.{then-owner-position, else-owner-position}
use Rattle.ld_iters.proofs.owned.owned_set.Goals as goal

pub loop-number-preserved : goal.loop-number-preserved
loop-number-preserved c =
    let owners = c.args.stripe.now.owners in
    elim c.if-owner-position.branch [
      | then-owner-position w ↦
          let mine : (owner_at owners c.loop-number.number == c.args.position) ≡ true = search rules in
          let more = owned_one owners c.args.position c.loop-number.number mine in
          search rules
      | else-owner-position w ↦
          let other : (owner_at owners c.loop-number.number == c.args.position) ≡ false = search rules in
          let same = owned_none owners c.args.position c.loop-number.number other in
          search rules
    ]
