use Rattle.std.proofs.Common.{◌≡◌, map, take}
use Rattle.clap.specs.Simple.{app_of, new_rule}
use Rattle.ld_words.specs.Syntax.{with_rules}
use Rattle.ld_words.proofs.syntax.with_places.Given as goal

abbrev pub invariant-loop-name : goal.invariant-loop-name
invariant-loop-name l = app_of l.command ≡ with_rules (app_of l.fn.command) (map (λ s. new_rule s.now) (take l.name-index l.name-items))
