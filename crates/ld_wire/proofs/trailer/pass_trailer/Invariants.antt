use Rattle.std.proofs.Common.{◌≡◌, ◌+◌, ◌<◌, ◌++◌, ℕ, List, length, take}
use Rattle.ld_wire.specs.Chunks.{trailer_limit}
use Rattle.ld_wire.specs.Trailer.{IsTrailerSoFar}
use Rattle.ld_wire.proofs.trailer.pass_trailer.Given as goal

-- the trailer so far, behind the bytes that were looked at
abbrev pub invariant-loop-at : goal.invariant-loop-at
invariant-loop-at l = record {
  count : l.seen ≡ l.fn.before + l.at;
  few : l.seen < trailer_limit;
  so_far : (text : List ℕ) → IsTrailerSoFar l.fn.first text → length text ≡ l.fn.before → IsTrailerSoFar l.line (text ++ take l.at l.piece);
}
