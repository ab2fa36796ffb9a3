-- The first field that isn't read is refused; and where each is read, none is.
use Rattle.std.proofs.Common.{◌≡◌, inl, inr, subst}
use Rattle.std.specs.Prelude.{Ok}
use Rattle.ld_json.proofs.RulesLemmas.{then_accepts}
use Rattle.ld_json.specs.Known.{allowed}
use Rattle.ld_options.specs.Executors.{fields_of}
use Rattle.ld_options.proofs.RefusalLemmas.{handed_on, node_accepts}
use Rattle.ld_options.proofs.member.fields.Goals as goal

pub returns-in_err-grace-clause-refused : goal.returns-in_err-grace-clause-refused
returns-in_err-grace-clause-refused c =
    let known = subst (λ names. allowed c.args.node.now names ≡ Ok c.in_ok-only.field-0) c.fields.ensures c.in_ok-only.ensures.answer.0 in
    let only = node_accepts (allowed c.args.node.now (fields_of c.args.kind)) c.in_ok-only.field-0 known in
    handed_on _ _ _ c.from_residual-in_err-grace.ensures
    (λ other. inr (only, inr (c.in_ok-begin.ensures.accepted, inl (c.in_err-grace.ensures.refused other))))

pub returns-in_err-script-clause-refused : goal.returns-in_err-script-clause-refused
returns-in_err-script-clause-refused c =
    let known = subst (λ names. allowed c.args.node.now names ≡ Ok c.in_ok-only.field-0) c.fields.ensures c.in_ok-only.ensures.answer.0 in
    let only = node_accepts (allowed c.args.node.now (fields_of c.args.kind)) c.in_ok-only.field-0 known in
    handed_on _ _ _ c.from_residual-in_err-script.ensures
    (λ other. inr (only, inr (c.in_ok-begin.ensures.accepted, inr (c.in_ok-grace.ensures.accepted, inl (c.in_err-script.ensures.refused other)))))

pub returns-clause-accepted : goal.returns-clause-accepted
returns-clause-accepted c =
    let known = subst (λ names. allowed c.args.node.now names ≡ Ok c.in_ok-only.field-0) c.fields.ensures c.in_ok-only.ensures.answer.0 in
    then_accepts _ _ (node_accepts (allowed c.args.node.now (fields_of c.args.kind)) c.in_ok-only.field-0 known)
    (then_accepts _ _ c.in_ok-begin.ensures.accepted
    (then_accepts _ _ c.in_ok-grace.ensures.accepted
    (then_accepts _ _ c.in_ok-script.ensures.accepted c.in_ok-executor.ensures.accepted)))
