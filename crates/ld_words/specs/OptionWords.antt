-- Words while they are read.
use Rattle.std.specs.Prelude.{◌≡◌, ◌≢◌, ◌<◌, ◌≤◌, ◌+◌, ◌⊎◌, ℕ, true, List, [], ◌∷◌, ◌++◌, Some, drop, length, map, slice_get, take}
use Rattle.ld_words.specs.Form.{Form}
use Rattle.ld_words.specs.Forms.{command_of, places_of, AreValues}
use Rattle.ld_words.specs.Options.{is_among, kind_of, name_text, AreOptions, Given}
use Rattle.ld_words.specs.Values.{IsValueOf}
use Rattle.ld_words.specs.declared.form.FormName.{FormName}
use Rattle.ld_words.specs.declared.value.ValueKind.{ValueKind}
use Rattle.ld_words.specs.declared.value.ValueKind.TheVariants.{Flag}
use Rattle.ld_words.specs.declared.option.OptionName.{OptionName}
use Rattle.ld_words.specs.declared.option.OptionWord.{OptionWord}
use Rattle.ld_words.specs.declared.option.OptionWord.TheVariants.{Name, Joined, Other}
use Rattle.ld_words.specs.declared.given.GivenOption.{GivenOption}

-- the options that are kept while words are read
abbrev pub given_by : List GivenOption → List Given
given_by options = map (λ (o : GivenOption). record { name = o.name; value = o.value.now }) options

-- the word is of no option of this name
pub record IsNotOf (word : List ℕ) (name : OptionName) : Type 0 where
  pub not_alone : word ≢ name_text name
  pub not_joined : (value : List ℕ) → word ≢ name_text name ++ 61 ∷ value

-- what a word says of an option of these names
abbrev pub IsOptionWord : List OptionName → List ℕ → OptionWord → Type 0
IsOptionWord names word (Name n) = (is_among n names ≡ true) × (word ≡ name_text n)
IsOptionWord names word (Joined n value) = (is_among n names ≡ true) × (word ≡ name_text n ++ 61 ∷ value.now)
IsOptionWord names word Other = (name : OptionName) → is_among name names ≡ true → IsNotOf word name

-- the words from `place` up to and without `behind` are one option more
pub record IsStep (names : List OptionName) (words : List (List ℕ)) (place behind : ℕ) (options : List GivenOption) : Type 0 where
  pub further : place < behind
  pub within : behind ≤ length words
  pub read : AreOptions names (take behind words) (given_by options)

-- the words that are options of these names
abbrev pub OfOptions : List OptionName → Form
OfOptions names words = (given : List Given) × AreOptions names words given

-- the word at a place is this value of a kind
abbrev pub IsValueAt : ValueKind → List (List ℕ) → ℕ → List ℕ → Type 0
IsValueAt kind words place value = (slice_get words place ≡ Some value) × IsValueOf kind value

-- there is no word at a place, or it is no value of a kind
abbrev pub IsNoValueAt : ValueKind → List (List ℕ) → ℕ → Type 0
IsNoValueAt kind words place = (value : List ℕ) → IsValueAt kind words place value → ⊥

-- behind an option's name, from a place on and up to another, stands this value: none if it is a flag
abbrev pub HasValue : OptionName → List (List ℕ) → ℕ → ℕ → List ℕ → Type 0
HasValue name words place behind value =
    ((kind_of name ≡ Flag) × (behind ≡ place) × (value ≡ []))
    ⊎ (IsValueAt (kind_of name) words place value × (behind ≡ place + 1))

-- behind an option's name, at a place, its value is missing
pub record HasNoValue (name : OptionName) (words : List (List ℕ)) (place : ℕ) : Type 0 where
  pub wanted : kind_of name ≢ Flag
  pub none : IsNoValueAt (kind_of name) words place

-- so many words, and no more, are values of the kinds at their places
pub record AreCounted (kinds : List ValueKind) (words : List (List ℕ)) (count : ℕ) : Type 0 where
  pub within : count ≤ length kinds
  pub inside : count ≤ length words
  pub are : AreValues (take count kinds) (take count words)
  pub more : (kind : ValueKind) → slice_get kinds count ≡ Some kind → IsNoValueAt kind words count

-- words that begin with a form's command and the values at its places
pub record AreBegun (form : FormName) (words places : List (List ℕ)) : Type 0 where
  pub words_are : words ≡ command_of form ∷ places ++ drop (1 + length places) words
  pub places_are : AreValues (places_of form) places
