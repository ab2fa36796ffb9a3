use Rattle.std.proofs.Common.{◌≡◌, ◌∷◌, map, take}
use Rattle.ld_segment.specs.declared.segment.Segment.{Segment}
use Rattle.ld_segment.proofs.parts.points_of.Given as goal

abbrev pub invariant-loop-part : goal.invariant-loop-part
invariant-loop-part l = l.points.items ≡ l.fn.first ∷ map (λ (part : Segment). part.to) (take l.part-index l.parts)
