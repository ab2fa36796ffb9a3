use Rattle.ld_outside.proofs.FileShelfLemmas.{write_more}
use Rattle.ld_outside.proofs.file_shelf.write_piece.Goals as goal

pub loop-done-preserved : goal.loop-done-preserved
loop-done-preserved g c =
    write_more _ _ _ _ _ _ _ c.loop-done.invariant c.split_at.ensures.back c.in-Some.ensures.within c.in-Some.ensures.bytes
