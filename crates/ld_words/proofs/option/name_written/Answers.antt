use Rattle.std.proofs.Common.{◌∙◌, ap, sym}
use Rattle.std.specs.Str.{bytes_eq}
use Rattle.ld_words.proofs.OptionLemmas.{written_at}
use Rattle.ld_words.proofs.option.name_written.Goals as goal

pub returns-then-eq : goal.returns-then-eq
returns-then-eq c =
    written_at c.args.names.now c.args.text.now c.loop-name.name-index _ c.loop-name-test.true
    (ap (bytes_eq c.args.text.now) (sym c.text.ensures) ∙ sym c.eq.ensures ∙ c.if-eq.true)
