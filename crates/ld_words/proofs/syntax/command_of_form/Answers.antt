use Rattle.std.proofs.Common.{◌≡◌, ◌∙◌, ap, codes, map}
use Rattle.std.proofs.lemmas.Result.{IfOk-weaker}
use Rattle.clap.specs.Simple.{app_of, new_app, new_rule}
use Rattle.ld_words.specs.Forms.{options_of}
use Rattle.ld_words.specs.Syntax.{option_rule, place_names_of, with_rules, without_help}
use Rattle.ld_words.proofs.SyntaxLemmas.{help_turned_off}
use Rattle.ld_words.proofs.syntax.command_of_form.Goals as goal

pub returns : goal.returns
returns c =
    let places = map new_rule (place_names_of c.args.form) in
    let options = map option_rule (options_of c.args.form) in
    let top : app_of c.disable_help_flag-command.result ≡ without_help (new_app (codes "load")) =
    help_turned_off c.new.result c.disable_help_flag-command.result c.disable_help_flag-command.ensures ∙ ap without_help c.new.ensures.app in
    let placed = c.in_ok-command.ensures ∙ ap (λ app. with_rules app places) top in
    IfOk-weaker c.with_options.result _ _ (λ r is. is ∙ ap (λ app. with_rules app options) placed) c.with_options.ensures
