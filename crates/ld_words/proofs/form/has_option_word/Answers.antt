use Rattle.std.proofs.Common.{◌∙◌, rules, tests, String, Global}
use Rattle.std.specs.Prelude.{string_bytes}
use Rattle.std.proofs.lemmas.Iterator.{YieldsList-from_slice}
use Rattle.std.proofs.lemmas.Iterator.Search.{any_from_yields_List}
use Rattle.ld_words.specs.Forms.{is_option_word}
use Rattle.ld_words.proofs.FormLemmas.{list_any-map}
use Rattle.ld_words.proofs.form.has_option_word.Goals as goal

pub returns : goal.returns
returns c =
    any_from_yields_List (λ (s : String Global). is_option_word (string_bytes s)) _ _ _ c.any.ensures.ran
    (YieldsList-from_slice c.args.words.now c.iter.ensures.rest) (λ x b q k. search (rules, tests))
    ∙ list_any-map is_option_word string_bytes c.args.words.now
