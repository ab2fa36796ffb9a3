-- A span that is read is in its range, or refused for it; and one that isn't read is refused.
use Rattle.std.proofs.Common.{IfOk, ap, subst, sym, inl}
use Rattle.std.proofs.lemmas.Result.{IfOk-weaker}
use Rattle.ld_json.specs.Pointer.{member_path}
use Rattle.ld_json.specs.Rules.{Accepts}
use Rattle.ld_num.specs.Duration.{IsDurationRefusal}
use Rattle.ld_script.specs.Times.{RefusesSpan}
use Rattle.ld_script.specs.declared.fault.ScriptFault.TheVariants.{Number}
use Rattle.ld_script.proofs.AnswerLemmas.{ok_same}
use Rattle.ld_script.proofs.TimesLemmas.{span_accepts}
use Rattle.ld_script.proofs.times.span.Goals as goal

pub returns-in-Ok-clause-accepted : goal.returns-in-Ok-clause-accepted
returns-in-Ok-clause-accepted c =
    let path = member_path c.args.node.now.path c.args.name.now in
    let accepts = IfOk-weaker _ _ _ (λ n is. span_accepts c.args.range path c.as_slice.result.now c.in-Ok.length c.in-Ok.ensures.value is.1 c.in-Ok.ensures.accepted) c.ranged.ensures.within in
    subst (λ text. IfOk c.ranged.result (λ x. Accepts (RefusesSpan c.args.range path text))) c.as_slice.ensures accepts

pub returns-in_ok-path-in-Err-clause-refused : goal.returns-in_ok-path-in-Err-clause-refused
returns-in_ok-path-in-Err-clause-refused c =
    let path = ok_same (member_path c.args.node.now.path c.args.name.now) c.in_ok-path-in-Err.path c.in_ok-path-in-Err.ensures.0 in
    let refused = subst (λ text. IsDurationRefusal text c.in-Err.fault) c.as_slice.ensures c.in-Err.ensures.refused in
    λ _. inl (c.in-Err.fault, refused, ap (λ p. Number p c.in-Err.fault) (sym path))
