use Rattle.std.proofs.Common.{◌∙◌, ap, refl, sym}
use Rattle.std.specs.Prelude.{map, string_bytes}
use Rattle.std.proofs.lemmas.List.{drop-map}
use Rattle.ld_words.proofs.ReaderLemmas.{options_here, refused_here}
use Rattle.ld_words.proofs.options.options_behind.Goals as goal

pub returns-in-Ok : goal.returns-in-Ok
returns-in-Ok c =
    options_here c.args.form _ _ _ _ c.options.ensures
    (ap (map string_bytes) c.split_at.ensures.back ∙ sym (drop-map string_bytes c.args.first c.args.words.now)) c.in-Ok.ensures

pub returns-in-Err-Refused : goal.returns-in-Err-Refused
returns-in-Err-Refused c _ =
    refused_here c.args.form _ _ _ _ c.args.first _ _ c.options.ensures
    (ap (map string_bytes) c.split_at.ensures.back ∙ sym (drop-map string_bytes c.args.first c.args.words.now))
    c.in-Err-Refused.field-0-is refl c.in-Err-Refused.ensures
