use Rattle.std.proofs.Common.{◌≤◌, ◌-◌, ◌++◌, ℕ, List, length, take}
use Rattle.ld_wire.specs.Standing.{StandsAt}
use Rattle.ld_wire.proofs.chunks.take_chunks.Given as goal

-- it stands behind the bytes that were taken
abbrev pub invariant-loop-used : goal.invariant-loop-used
invariant-loop-used l = record {
  inside : l.used ≤ length l.piece;
  stands : (text : List ℕ) → StandsAt l.fn.first l.fn.held.items l.fn.body.items text
      → StandsAt l.place l.held.items l.body.items (text ++ take l.used l.piece);
}

abbrev pub decreases-loop-used : goal.decreases-loop-used
decreases-loop-used l = length l.piece - l.used
