use Rattle.ld_wire.proofs.StandingLemmas.{feed_goes, feed_refused}
use Rattle.ld_wire.proofs.data.take_feed.Goals as goal

pub returns-then-piece-ne10-clause-err : goal.returns-then-piece-ne10-clause-err
returns-then-piece-ne10-clause-err c body text is = feed_refused body text c.args.piece.now c.requires c.if-piece-ne10.true is

pub returns-clause-ok : goal.returns-clause-ok
returns-clause-ok c body text is = feed_goes body text c.args.piece.now c.requires c.if-piece-ne10.false is
