use Rattle.std.proofs.Common.{◌∙◌, rules, tests, Bor, List, ap, sym}
use Rattle.std.specs.List.{list_all}
use Rattle.std.proofs.lemmas.Iterator.{YieldsList-from_slice}
use Rattle.std.proofs.lemmas.Iterator.Search.{all_from_yields_List}
use Rattle.std.proofs.lemmas.List.Folds.{list_all-map}
use Rattle.ld_words.specs.Forms.{has_one_of}
use Rattle.ld_words.specs.OptionWords.{given_by}
use Rattle.ld_words.specs.declared.option.OptionName.{OptionName}
use Rattle.ld_words.proofs.form.FormName.has_needed.Goals as goal

pub returns : goal.returns
returns c =
    all_from_yields_List (λ (names : Bor (List OptionName)). has_one_of (given_by c.args.given.now) names.now) _ _ _ c.all.ensures.ran
    (YieldsList-from_slice c.needs.result.now c.iter.ensures.rest) (λ x b q k. search (rules, tests))
    ∙ sym (list_all-map (has_one_of (given_by c.args.given.now)) (λ (names : Bor (List OptionName)). names.now) c.needs.result.now)
    ∙ ap (list_all (has_one_of (given_by c.args.given.now))) c.needs.ensures
