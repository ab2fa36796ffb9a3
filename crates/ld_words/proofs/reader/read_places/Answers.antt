use Rattle.std.proofs.Common.{◌∙◌, ap, sym}
use Rattle.std.specs.Prelude.{map, string_bytes}
use Rattle.std.proofs.lemmas.List.{drop-map, take-map}
use Rattle.ld_words.proofs.ReaderLemmas.{begun_here, refused_command_here, refused_place_here}
use Rattle.ld_words.proofs.reader.read_places.Goals as goal

pub returns-then-not-is_word : goal.returns-then-not-is_word
returns-then-not-is_word c = refused_command_here c.args.form _ _ c.command.ensures (sym c.is_word.ensures ∙ c.if-not-is_word.true)

pub returns-then-count-kinds : goal.returns-then-count-kinds
returns-then-count-kinds c =
    refused_place_here c.args.form _ _ _ _ _ c.command.ensures c.places-kinds.ensures (sym c.is_word.ensures ∙ c.if-not-is_word.false)
    (ap (map string_bytes) c.split_at.ensures.back ∙ sym (drop-map string_bytes 1 c.args.words.now)) c.count_values-count.ensures c.if-count-kinds.true

pub returns : goal.returns
returns c =
    begun_here c.args.form _ _ _ _ _ _ c.command.ensures c.places-kinds.ensures (sym c.is_word.ensures ∙ c.if-not-is_word.false)
    (ap (map string_bytes) c.split_at.ensures.back ∙ sym (drop-map string_bytes 1 c.args.words.now)) c.count_values-count.ensures c.if-count-kinds.false
    (ap (map string_bytes) c.split_at-2.ensures.front ∙ sym (take-map string_bytes c.count_values-count.result _))
