use Rattle.std.proofs.Common.{◌∙◌, ap₂, sym}
use Rattle.std.specs.Str.{bytes_eq}
use Rattle.ld_words.proofs.GivenLemmas.{none_at_index, value_at_index}
use Rattle.ld_words.proofs.given.value_under.Goals as goal

pub returns-then-eq : goal.returns-then-eq
returns-then-eq c =
    value_at_index c.args.name c.args.given.now c.loop-option.option-index _ c.loop-option-test.true c.loop-option.invariant
    (ap₂ bytes_eq (sym c.text.ensures) (sym c.text-in-loop-option.ensures) ∙ sym c.eq.ensures ∙ c.if-eq.true)

pub loop-option-preserved : goal.loop-option-preserved
loop-option-preserved c =
    none_at_index c.args.name c.args.given.now c.loop-option.option-index _ c.loop-option-test.true c.loop-option.invariant
    (ap₂ bytes_eq (sym c.text.ensures) (sym c.text-in-loop-option.ensures) ∙ sym c.eq.ensures ∙ c.if-eq.false)
