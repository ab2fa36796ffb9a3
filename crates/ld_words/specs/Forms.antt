-- The forms of commands: for each its command, what stands at its places, and its options.
use Rattle.std.specs.Prelude.{◌≡◌, ◌==◌, ◌&&◌, ℕ, Bool, true, false, List, [], ◌∷◌, ◌++◌, is_some, codes, if◌then◌else◌, slice_get}
use Rattle.std.specs.Option.{option_map_or}
use Rattle.std.specs.List.{list_all, list_any}
use Rattle.std.specs.Str.{bytes_eq}
use Rattle.ld_words.specs.Form.{Form}
use Rattle.ld_words.specs.Options.{value_of, AreOptions, Given}
use Rattle.ld_words.specs.Values.{IsValueOf}
use Rattle.ld_words.specs.declared.form.FormName.{FormName}
use Rattle.ld_words.specs.declared.form.FormName.TheVariants.{StripeWeights, StripeSegment, Plan, RehearseTest, RehearseWords, Help}
use Rattle.ld_words.specs.declared.option.OptionName.{OptionName}
use Rattle.ld_words.specs.declared.option.OptionName.TheVariants as names
use Rattle.ld_words.specs.declared.value.ValueKind.{ValueKind}
use Rattle.ld_words.specs.declared.value.ValueKind.TheVariants as kinds

-- the first word
abbrev pub command_of : FormName → List ℕ
command_of StripeWeights = codes "stripe"
command_of StripeSegment = codes "stripe"
command_of Plan = codes "plan"
command_of RehearseTest = codes "rehearse"
command_of RehearseWords = codes "rehearse"
command_of Help = codes "help"

-- what the words behind it are, place by place
abbrev pub places_of : FormName → List ValueKind
places_of StripeWeights = kinds.Weights ∷ kinds.Number ∷ kinds.Count ∷ []
places_of StripeSegment = kinds.Count ∷ []
places_of Plan = kinds.Plain ∷ []
places_of RehearseTest = kinds.Plain ∷ []
places_of RehearseWords = []
places_of Help = []

-- the options that may stand behind them
abbrev pub options_of : FormName → List OptionName
options_of StripeWeights = []
options_of StripeSegment = names.Segment ∷ names.Sequence ∷ []
options_of Plan = names.Segment ∷ names.Sequence ∷ names.Entries ∷ names.List ∷ []
options_of RehearseTest = names.Iteration ∷ names.Journal ∷ names.Segment ∷ names.Sequence ∷ names.Entries ∷ []
options_of RehearseWords =
    names.Rate ∷ names.Unit ∷ names.Duration ∷ names.Pre ∷ names.Max ∷ names.Iteration ∷ names.Journal ∷ names.Entries ∷ []
options_of Help = []

-- of each of these lists one option has to be given
abbrev pub needs_of : FormName → List (List OptionName)
needs_of StripeWeights = []
needs_of StripeSegment = (names.Segment ∷ names.Sequence ∷ []) ∷ []
needs_of Plan = []
needs_of RehearseTest = (names.Iteration ∷ []) ∷ (names.Journal ∷ []) ∷ []
needs_of RehearseWords =
    (names.Rate ∷ []) ∷ (names.Unit ∷ []) ∷ (names.Duration ∷ []) ∷ (names.Pre ∷ []) ∷ (names.Max ∷ [])
    ∷ (names.Iteration ∷ []) ∷ (names.Journal ∷ []) ∷ []
needs_of Help = []

-- ---- words of a form

-- each word is a value of the kind at its place, and there is one for each
abbrev pub AreValues : List ValueKind → List (List ℕ) → Type 0
AreValues [] [] = Unit {0}
AreValues (kind ∷ kinds) (word ∷ words) = IsValueOf kind word × AreValues kinds words
AreValues [] (word ∷ words) = ⊥
AreValues (kind ∷ kinds) [] = ⊥

-- one of these options is given
abbrev pub has_one_of : List Given → List OptionName → Bool
has_one_of given = list_any (λ name. is_some (value_of name given))

-- the words are the form's command, these values at its places, and these options in any order
pub record AreWordsOf (form : FormName) (words places : List (List ℕ)) (given : List Given) : Type 0 where
  pub option_words : List (List ℕ)
  pub words_are : words ≡ command_of form ∷ places ++ option_words
  pub places_are : AreValues (places_of form) places
  pub options_are : AreOptions (options_of form) option_words given
  pub needed : list_all (has_one_of given) (needs_of form) ≡ true

-- the words are of a form
pub record IsOfForm (form : FormName) (words : List (List ℕ)) : Type 0 where
  pub places : List (List ℕ)
  pub given : List Given
  pub are : AreWordsOf form words places given

-- a form as the word lists that are of it
abbrev pub form_of : FormName → Form
form_of form words = IsOfForm form words

-- ---- the form that words are read by

-- a word that begins with two dashes
abbrev pub is_option_word : List ℕ → Bool
is_option_word (a ∷ b ∷ _) = (a == 45) && (b == 45)
is_option_word _ = false

-- the word at a place is this one
abbrev pub is_word : List (List ℕ) → ℕ → List ℕ → Bool
is_word words place text = option_map_or (λ word. bytes_eq word text) (slice_get words place) false

-- the word at a place begins with two dashes
abbrev pub is_option_word_at : List (List ℕ) → ℕ → Bool
is_option_word_at words place = option_map_or is_option_word (slice_get words place) false

-- The first word tells the command. Whether some word begins with two dashes tells the forms of `stripe`
-- apart, and whether the word behind the command does tells those of `rehearse`. Words of no command are
-- read as `help`, which refuses them at their first place.
abbrev pub form_read : List (List ℕ) → FormName
form_read words =
    if is_word words 0 (codes "stripe") then (if list_any is_option_word words then StripeSegment else StripeWeights)
    else if is_word words 0 (codes "plan") then Plan
    else if is_word words 0 (codes "rehearse") then
    (if is_option_word_at words 1 then RehearseWords else RehearseTest)
    else Help
