use Rattle.std.proofs.Common.{◌≡◌, ◌≤◌, ◌+◌, ◌∙◌, Vec, Global, ℕ, List, length, arith, ap, subst, sym}
use Rattle.std.proofs.lemmas.Result.{IfOk-weaker}
use Rattle.ld_num.specs.declared.fraction.Frac.{Frac}
use Rattle.ld_segment.specs.Points.{IsFilled}
use Rattle.ld_segment.specs.Segments.{most_segments, segments_of, IsSequence}
use Rattle.ld_segment.proofs.FillingLemmas.{filled_again, length_segments}
use Rattle.ld_segment.proofs.sequence.Sequence.weights.Goals as goal

-- there is one weight for each segment
one_each : (shown points : List Frac) → shown ≡ points → (weights : Vec ℕ Global) → length weights.items + 1 ≡ length shown →
    length weights.items ≡ length (segments_of points)
one_each shown points same weights counted =
    let long = length_segments points in
    let lengths = ap length same in
    omega arith

-- and there aren't too many
few_weights : (shown points : List Frac) → shown ≡ points → IsSequence points → IsFilled points → (weights : Vec ℕ Global) →
    length weights.items + 1 ≡ length shown → length weights.items ≤ most_segments
few_weights shown points same sequence is_filled weights counted =
    let each = one_each shown points same weights counted in
    let few : length (segments_of points) ≤ most_segments =
    subst (λ ps. length (segments_of ps) ≤ most_segments) (filled_again points is_filled) sequence.few in
    omega arith

pub returns-clause-positions : goal.returns-clause-positions
returns-clause-positions c =
    IfOk-weaker _ _ _ (one_each c.deref.result.now c.args.self.now (c.deref.ensures.value ∙ c.self.view_is)) c.weights_of.ensures.positions

pub returns-clause-few : goal.returns-clause-few
returns-clause-few c =
    let points = c.self.inside.points.items in
    let whole : IsFilled points = subst IsFilled (sym c.self.view_is) c.requires.filled in
    IfOk-weaker _ _ _ (few_weights c.deref.result.now points c.deref.ensures.value c.self.invariant whole) c.weights_of.ensures.positions
