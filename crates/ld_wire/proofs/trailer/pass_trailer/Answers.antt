use Rattle.std.proofs.Common.{◌+◌, ◌++◌, get_or, take, subst, sym, arith, refl}
use Rattle.ld_wire.specs.Trailer.{IsTrailerSoFar, line_behind}
use Rattle.ld_wire.specs.declared.trailer.LineSoFar.{LineSoFar}
use Rattle.ld_wire.proofs.TrailerLemmas.{one_last, one_more, too_long}
use Rattle.ld_wire.proofs.trailer.pass_trailer.Goals as goal

pub returns-then-ends_trailer-clause-passed : goal.returns-then-ends_trailer-clause-passed
returns-then-ends_trailer-clause-passed c text is same =
    let inside = c.loop-at-test.true in
    let count = c.loop-at.invariant.count in
    let few = c.loop-at.invariant.few in (
      omega arith,
      omega arith,
      one_last c.loop-at.line text c.args.piece.now c.loop-at.at c.args.before c.ends_trailer.result inside c.ends_trailer.ensures
          c.if-ends_trailer.true same (omega arith) (c.loop-at.invariant.so_far text is same),
    )

pub returns-then-seen-ge-TRAILER_LIMIT-clause-refused : goal.returns-then-seen-ge-TRAILER_LIMIT-clause-refused
returns-then-seen-ge-TRAILER_LIMIT-clause-refused c =
    let inside = c.loop-at-test.true in
    let count = c.loop-at.invariant.count in
    let full = c.if-seen-ge-TRAILER_LIMIT.true in (
      refl,
      λ text is same.
          too_long (line_behind c.loop-at.line (get_or c.args.piece.now c.loop-at.at 0)) text c.args.piece.now c.loop-at.at
          c.args.before inside same (omega arith)
          (one_more c.loop-at.line text c.args.piece.now c.loop-at.at c.ends_trailer.result inside c.ends_trailer.ensures c.if-ends_trailer.false
          (c.loop-at.invariant.so_far text is same)),
    )

pub loop-at-preserved : goal.loop-at-preserved
loop-at-preserved c =
    let count = c.loop-at.invariant.count in
    record {
      count = omega arith;
      few = c.if-seen-ge-TRAILER_LIMIT.false;
      so_far = λ text is same.
          let P : LineSoFar → Type 0 = λ l. IsTrailerSoFar l (text ++ take (c.loop-at.at + 1) c.args.piece.now) in
          subst P (sym c.line_behind-line.ensures)
          (one_more c.loop-at.line text c.args.piece.now c.loop-at.at c.ends_trailer.result c.loop-at-test.true c.ends_trailer.ensures
          c.if-ends_trailer.false (c.loop-at.invariant.so_far text is same));
    }
