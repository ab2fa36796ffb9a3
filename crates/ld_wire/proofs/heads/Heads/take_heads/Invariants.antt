use Rattle.std.proofs.Common.{◌≡◌, ◌≤◌, ◌-◌, ◌++◌, ℕ, List, length, take}
use Rattle.ld_wire.specs.Heads.{KeepsHeaders, HeadsStand, InHead, heads_view}
use Rattle.ld_wire.proofs.heads.Heads.take_heads.Given as goal

-- they stand behind the bytes that were taken
abbrev pub invariant-loop-used : goal.invariant-loop-used
invariant-loop-used l = record {
  inside : l.used ≤ length l.piece;
  room : KeepsHeaders l.self;
  same : l.self.for_head ≡ l.fn.self.for_head;
  stands : (bytes : List ℕ) → InHead (heads_view l.fn.self) bytes
      → HeadsStand l.follows (heads_view l.self) (bytes ++ take l.used l.piece);
}

abbrev pub decreases-loop-used : goal.decreases-loop-used
decreases-loop-used l = length l.piece - l.used
