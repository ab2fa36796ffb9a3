use Rattle.std.proofs.Common.{◌∙◌, ◌<◌, ap₂, arith, length}
use Rattle.clap.specs.Simple.{app_of, with_rule}
use Rattle.ld_words.specs.Syntax.{option_rule}
use Rattle.ld_words.proofs.SyntaxLemmas.{one_more}
use Rattle.ld_words.proofs.syntax.with_options.Goals as goal

pub loop-name-preserved : goal.loop-name-preserved
loop-name-preserved c =
    let names = c.options-name-items.result.now in
    let inside : c.loop-name.name-index < length names = omega arith in
    c.in_ok-command.ensures.shape c.option_arg.ensures.local ∙ ap₂ with_rule c.loop-name.invariant c.option_arg.ensures.rule
    ∙ one_more option_rule (app_of c.args.command) names c.loop-name.name-index _ inside
