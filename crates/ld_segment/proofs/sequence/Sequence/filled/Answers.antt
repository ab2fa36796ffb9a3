use Rattle.std.proofs.Common.{◌∙◌, arith, ap, sym, subst}
use Rattle.ld_segment.specs.Points.{IsFilled}
use Rattle.ld_segment.specs.Segments.{filled, IsSequence}
use Rattle.ld_segment.proofs.FillingLemmas.{filled_is, filled_sequence}
use Rattle.ld_segment.proofs.sequence.Sequence.filled.Goals as goal

pub invariant_of-result : goal.invariant_of-result
invariant_of-result c =
    subst IsSequence (sym (c.in_ok-points.ensures ∙ ap filled c.deref.ensures.value)) (filled_sequence c.self.inside.points.items c.self.invariant)

pub returns-clause-whole : goal.returns-clause-whole
returns-clause-whole c =
    subst IsFilled (sym (c.in_ok-points.ensures ∙ ap filled c.deref.ensures.value))
    (filled_is c.self.inside.points.items (let two = c.self.invariant.some in omega arith) c.self.invariant.rises c.self.invariant.at_most_one)

pub returns-clause-sequence : goal.returns-clause-sequence
returns-clause-sequence c = subst IsSequence (sym (c.in_ok-points.ensures ∙ ap filled c.deref.ensures.value)) (filled_sequence c.self.inside.points.items c.self.invariant)
