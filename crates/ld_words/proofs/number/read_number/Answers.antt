use Rattle.std.proofs.Common.{◌∙◌, ap, sym}
use Rattle.ld_words.specs.Number.{is_number}
use Rattle.ld_words.proofs.NumberLemmas.{parsed_number}
use Rattle.ld_words.proofs.number.read_number.Goals as goal

pub returns : goal.returns
returns c =
    c.ok.ensures.value
    ∙ parsed_number c.args.word.now c.parse.result c.parse.ensures.value.0
    (ap is_number (sym c.as_bytes.ensures.value) ∙ sym c.is_number.ensures ∙ c.if-not-is_number.false)
