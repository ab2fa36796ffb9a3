use Rattle.std.proofs.Common.{ℕ, List, Bor, map, take}
use Rattle.ld_segment.specs.Values.{ArePoints}
use Rattle.ld_segment.proofs.value.read_values.Given as goal

abbrev pub invariant-loop-place : goal.invariant-loop-place
invariant-loop-place l = ArePoints (take l.place (map (λ (v : Bor (List ℕ)). v.now) l.values)) l.points.items
