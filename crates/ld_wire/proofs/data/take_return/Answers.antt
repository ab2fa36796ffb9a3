use Rattle.ld_wire.proofs.StandingLemmas.{return_refused}
use Rattle.ld_wire.proofs.data.take_return.Goals as goal

pub returns-then-piece-ne13-clause-err : goal.returns-then-piece-ne13-clause-err
returns-then-piece-ne13-clause-err c body text is = return_refused body text c.args.piece.now c.requires c.if-piece-ne13.true is
