use Rattle.std.proofs.Common.{◌≡◌, map, take}
use Rattle.clap.specs.Simple.{app_of}
use Rattle.ld_words.specs.Syntax.{option_rule, with_rules}
use Rattle.ld_words.proofs.syntax.with_options.Given as goal

abbrev pub invariant-loop-name : goal.invariant-loop-name
invariant-loop-name l = app_of l.command ≡ with_rules (app_of l.fn.command) (map option_rule (take l.name-index l.name-items))
