use Rattle.std.proofs.Common.{◌++◌, sym, subst}
use Rattle.ld_wire.specs.Chunks.{ChunksRefuse}
use Rattle.ld_wire.specs.declared.fault.WireFault.{WireFault}
use Rattle.ld_wire.proofs.TrailerStepLemmas.{trailer_refused}
use Rattle.ld_wire.proofs.trailer_step.take_trailer.Goals as goal

pub returns-in-Err-clause-err : goal.returns-in-Err-clause-err
returns-in-Err-clause-err c body text is =
    let refused = c.in-Err.ensures.refused in
    let P : WireFault → Type 0 = λ f. ChunksRefuse (text ++ c.args.piece.now) f in
    subst P (sym refused.0)
    (trailer_refused c.args.line c.args.seen body text c.args.piece.now is (refused.1 is.trailer is.so_far is.count))
