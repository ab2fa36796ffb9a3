use Rattle.std.proofs.Common.{rules, ◌∙◌, ◌<◌, ◌≤◌, [], map, ap, ap₂, arith, length, sym}
use Rattle.std.proofs.lemmas.Simd.{map-map}
use Rattle.clap.specs.Simple.{app_of, new_rule, with_rule}
use Rattle.ld_words.specs.Syntax.{with_rules}
use Rattle.ld_words.proofs.SyntaxLemmas.{all_of_them, one_more}
use Rattle.ld_words.proofs.syntax.with_places.Goals as goal

pub loop-name-preserved : goal.loop-name-preserved
loop-name-preserved c =
    let names = c.place_names_of-name-items.result.now in
    let inside : c.loop-name.name-index < length names = omega arith in
    c.in_ok-command.ensures.shape (search rules) ∙ ap₂ with_rule c.loop-name.invariant c.new.ensures.rule
    ∙ one_more (λ s. new_rule s.now) (app_of c.args.command) names c.loop-name.name-index (record { ref_ptr = (0, 0); now = [] }) inside

pub returns : goal.returns
returns c =
    let names = c.place_names_of-name-items.result.now in
    let past : length names ≤ c.loop-name.name-index = omega arith in
    c.loop-name.invariant ∙ all_of_them (λ s. new_rule s.now) (app_of c.args.command) names c.loop-name.name-index past
    ∙ ap (with_rules (app_of c.args.command)) (sym (map-map new_rule (λ s. s.now) names) ∙ ap (map new_rule) c.place_names_of-name-items.ensures)
