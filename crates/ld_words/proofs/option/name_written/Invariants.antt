use Rattle.std.proofs.Common.{◌≡◌, false, take}
use Rattle.std.specs.List.{list_any}
use Rattle.std.specs.Str.{bytes_eq}
use Rattle.ld_words.specs.Options.{name_text}
use Rattle.ld_words.specs.declared.option.OptionName.{OptionName}
use Rattle.ld_words.proofs.option.name_written.Given as goal

abbrev pub invariant-loop-name : goal.invariant-loop-name
invariant-loop-name l = list_any (λ (m : OptionName). bytes_eq l.text (name_text m)) (take l.name-index l.names) ≡ false
