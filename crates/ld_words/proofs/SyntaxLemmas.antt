-- Commands that are made argument by argument.
use Rattle.std.proofs.Common.{true, ◌≡◌, ◌<◌, ◌≤◌, ◌+◌, ◌∙◌, ℕ, List, [], ◌∷◌, ◌++◌, length, map, take, get_or, ap, sym, append_assoc}
use Rattle.std.proofs.lemmas.List.{map_more, take_all}
use Rattle.clap.specs.Walk.{Rule}
use Rattle.clap.specs.Simple.{App, app_of, app_of_fields, with_rule}
use Rattle.clap.specs.declared.builder.command.Command.{Command}
use Rattle.clap.specs.declared.builder.command.Command.TheViews.{out-Command}
use Rattle.ld_words.specs.Syntax.{with_rules, without_help}

-- one more argument
pub one_more : {X : Type 0} (f : X → Rule) (app : App) (xs : List X) (i : ℕ) (d : X) → i < length xs →
    with_rule (with_rules app (map f (take i xs))) (f (get_or xs i d)) ≡ with_rules app (map f (take (i + 1) xs))
one_more f app xs i d inside =
    ap (λ rules. record { top = record app.top { rules = rules }; subs = app.subs })
    (append_assoc app.top.rules (map f (take i xs)) (f (get_or xs i d) ∷ [])
    ∙ ap (λ rules. app.top.rules ++ rules) (sym (map_more f xs i d inside)))

-- all arguments
pub all_of_them : {X : Type 0} (f : X → Rule) (app : App) (xs : List X) (i : ℕ) → length xs ≤ i →
    with_rules app (map f (take i xs)) ≡ with_rules app (map f xs)
all_of_them f app xs i past = ap (λ ys. with_rules app (map f ys)) (take_all i xs past)

-- a command for which the help flag is turned off
pub help_turned_off : (old new : Command) → out-Command new ≡ record (out-Command old) { disable_help_flag = true } → app_of new ≡ without_help (app_of old)
help_turned_off old new is = ap app_of_fields is
