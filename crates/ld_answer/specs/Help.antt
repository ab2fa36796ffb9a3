-- The lines of `help`: one for each form of the table of forms.
use Rattle.std.specs.Prelude.{◌==◌, ◌&&◌, ℕ, Bool, List, ◌∷◌, ◌++◌, [], codes, length, map, if◌then◌else◌}
use Rattle.std.specs.List.{concat, join_with_byte, list_any}
use Rattle.ld_words.specs.Forms.{command_of, needs_of, options_of}
use Rattle.ld_words.specs.Options.{is_among, name_text}
use Rattle.ld_words.specs.declared.form.FormName.{FormName}
use Rattle.ld_words.specs.declared.form.FormName.TheVariants.{StripeWeights, StripeSegment, Plan, RehearseTest, RehearseWords, Help}
use Rattle.ld_words.specs.declared.option.OptionName.{OptionName}
use Rattle.ld_words.specs.declared.option.OptionName.TheVariants as names

-- the forms in the order in which they are listed
abbrev pub all_forms : List FormName
all_forms = StripeWeights ∷ StripeSegment ∷ Plan ∷ RehearseTest ∷ RehearseWords ∷ Help ∷ []

-- what the words at the places of a form are called
abbrev pub place_labels : FormName → List (List ℕ)
place_labels StripeWeights = codes "WEIGHTS" ∷ codes "POSITION" ∷ codes "N" ∷ []
place_labels StripeSegment = codes "N" ∷ []
place_labels Plan = codes "TEST" ∷ []
place_labels RehearseTest = codes "TEST" ∷ []
place_labels RehearseWords = []
place_labels Help = []

-- what an option's value is called, behind a space; a flag has none
abbrev pub value_label : OptionName → List ℕ
value_label names.Segment = codes " S"
value_label names.Sequence = codes " S"
value_label names.Rate = codes " N"
value_label names.Unit = codes " D"
value_label names.Duration = codes " D"
value_label names.Pre = codes " N"
value_label names.Max = codes " N"
value_label names.Iteration = codes " D"
value_label names.Journal = codes " NAME"
value_label names.Entries = codes " N"
value_label names.List = []

-- a form needs this very option
abbrev pub is_needed : FormName → OptionName → Bool
is_needed form name = list_any (λ need. (length need == 1) && is_among name need) (needs_of form)

-- an option and its value, in brackets where the form doesn't need it
abbrev pub option_label : FormName → OptionName → List ℕ
option_label form name =
    if is_needed form name then name_text name ++ value_label name
    else 91 ∷ name_text name ++ value_label name ++ 93 ∷ []

-- the line of a form: the program, the command, the places, and the options
abbrev pub form_line : FormName → List ℕ
form_line form =
    join_with_byte 32 (codes "load" ∷ command_of form ∷ place_labels form ++ map (option_label form) (options_of form)) ++ 10 ∷ []

abbrev pub help_text : List ℕ
help_text = concat (map form_line all_forms)
