use Rattle.std.proofs.Common.{◌∷◌, [], sym, inl, subst}
use Rattle.std.proofs.lemmas.Result.{err_from_is_err_and}
use Rattle.ld_segment.specs.Values.{ArePoints}
use Rattle.ld_segment.proofs.ValueLemmas.{second_refused}
use Rattle.ld_segment.proofs.RefusalLemmas.{segment_accepted}
use Rattle.ld_segment.proofs.segment.Segment.read.Goals as goal

pub returns-in_err-to-clause-refused : goal.returns-in_err-to-clause-refused
returns-in_err-to-clause-refused c =
    let p = err_from_is_err_and c.from_residual-in_err-to.result c.from_residual-in_err-to.ensures.1 in
    rw (p.1, p.2) (inl (second_refused _ _ _ _ _ c.halves.ensures c.in_ok-from.ensures.value c.in_err-to.ensures.refused))

pub returns-clause-accepted : goal.returns-clause-accepted
returns-clause-accepted c =
    segment_accepted c.args.text.now (c.in_ok-from.from ∷ c.in_ok-to.to ∷ [])
    (subst (λ values. ArePoints values (c.in_ok-from.from ∷ c.in_ok-to.to ∷ [])) (sym c.halves.ensures) (c.in_ok-from.ensures.value, (c.in_ok-to.ensures.value, tt)))
    c.in_ok-check_points.ensures.at_most_one c.in_ok-check_points.ensures.rises
