use Rattle.std.proofs.Common.{◌≡◌, take}
use Rattle.std.specs.Prelude.{None}
use Rattle.ld_words.specs.Options.{value_of}
use Rattle.ld_words.specs.OptionWords.{given_by}
use Rattle.ld_words.proofs.given.value_under.Given as goal

abbrev pub invariant-loop-option : goal.invariant-loop-option
invariant-loop-option l = value_of l.name (given_by (take l.option-index l.given)) ≡ None
