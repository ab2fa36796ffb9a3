-- A span that is read isn't refused.
use Rattle.std.specs.Prelude.{option_copied}
use Rattle.std.proofs.lemmas.Result.{IfOk-weaker}
use Rattle.ld_script.proofs.TimesLemmas.{time_accepts}
use Rattle.ld_script.proofs.times.time.Goals as goal

pub returns-clause-accepted : goal.returns-clause-accepted
returns-clause-accepted c =
    IfOk-weaker _ _ _ (λ n accepts. time_accepts c.args.range (option_copied c.args.default) c.args.node.now c.args.name.now c.in_ok-text.text c.in_ok-text.ensures.0 accepts) c.span.ensures.accepted
