use Rattle.std.proofs.Common.{◌≡◌, ◌<◌, ℕ}
use Rattle.std.specs.Prelude.{Some, slice_get}
use Rattle.ld_segment.specs.Segments.{segments_of}
use Rattle.ld_segment.specs.Refusal.{ends}
use Rattle.ld_segment.proofs.sequence.Sequence.position.Given as goal

abbrev pub invariant-loop-position : goal.invariant-loop-position
invariant-loop-position l = (k : ℕ) → k < l.position → slice_get (segments_of l.self) k ≡ Some (ends l.segment) → ⊥
