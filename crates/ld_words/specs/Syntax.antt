-- The arguments that clap is told of for each form.
use Rattle.std.specs.Prelude.{ℕ, true, List, [], ◌∷◌, ◌++◌, Some, codes, if◌then◌else◌, map, take, length}
use Rattle.clap.specs.Walk.{Rule}
use Rattle.clap.specs.Simple.{App, new_app, new_rule, on_top}
use Rattle.clap.specs.declared.builder.action.ArgAction.TheVariants.{Set, SetTrue}
use Rattle.ld_words.specs.Forms.{options_of, places_of}
use Rattle.ld_words.specs.Taken.{is_flag}
use Rattle.ld_words.specs.declared.form.FormName.{FormName}
use Rattle.ld_words.specs.declared.option.OptionName.{OptionName}
use Rattle.ld_words.specs.declared.option.OptionName.TheVariants as names

-- an option's name without its dashes
abbrev pub bare_name : OptionName → List ℕ
bare_name names.Segment = codes "segment"
bare_name names.Sequence = codes "sequence"
bare_name names.Rate = codes "rate"
bare_name names.Unit = codes "unit"
bare_name names.Duration = codes "duration"
bare_name names.Pre = codes "pre"
bare_name names.Max = codes "max"
bare_name names.Iteration = codes "iteration"
bare_name names.Journal = codes "journal"
bare_name names.Entries = codes "entries"
bare_name names.List = codes "list"

-- what the places are called, in order
abbrev pub place_names : List (List ℕ)
place_names = codes "place 1" ∷ codes "place 2" ∷ codes "place 3" ∷ []

-- what a form's places are called
abbrev pub place_names_of : FormName → List (List ℕ)
place_names_of form = take (length (places_of form)) place_names

-- an option takes one value, and a flag none
abbrev pub option_rule : OptionName → Rule
option_rule name = record (new_rule (bare_name name)) {
  long = Some (bare_name name);
  action = Some (if is_flag name then SetTrue else Set);
}

-- more arguments behind those of a command
abbrev pub with_rules : App → List Rule → App
with_rules app rules = on_top (λ s. record s { rules = s.rules ++ rules }) app

-- a command for which `--help` is no option
abbrev pub without_help : App → App
without_help app = on_top (λ s. record s { disable_help_flag = true }) app

-- a form's places, and then its options
abbrev pub app_of_form : FormName → App
app_of_form form =
    with_rules (with_rules (without_help (new_app (codes "load"))) (map new_rule (place_names_of form)))
    (map option_rule (options_of form))
