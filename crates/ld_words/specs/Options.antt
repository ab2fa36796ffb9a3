-- Options among the words of a command line.
use Rattle.std.specs.Prelude.{◌≡◌, ◌≤◌, ℕ, Bool, true, List, [], ◌∷◌, ◌++◌, Option, codes, count_by, find, map}
use Rattle.std.specs.List.{AllByRecursion, flat_map, list_any}
use Rattle.std.specs.Option.{option_map}
use Rattle.std.specs.Str.{bytes_eq}
use Rattle.ld_words.specs.Values.{IsValueOf}
use Rattle.ld_words.specs.declared.option.OptionName.{OptionName}
use Rattle.ld_words.specs.declared.option.OptionName.TheVariants as names
use Rattle.ld_words.specs.declared.value.ValueKind.{ValueKind}
use Rattle.ld_words.specs.declared.value.ValueKind.TheVariants as kinds

-- how an option's name is written
abbrev pub name_text : OptionName → List ℕ
name_text names.Segment = codes "--segment"
name_text names.Sequence = codes "--sequence"
name_text names.Rate = codes "--rate"
name_text names.Unit = codes "--unit"
name_text names.Duration = codes "--duration"
name_text names.Pre = codes "--pre"
name_text names.Max = codes "--max"
name_text names.Iteration = codes "--iteration"
name_text names.Journal = codes "--journal"
name_text names.Entries = codes "--entries"
name_text names.List = codes "--list"

-- the kind of value that an option takes
abbrev pub kind_of : OptionName → ValueKind
kind_of names.Segment = kinds.Plain
kind_of names.Sequence = kinds.Plain
kind_of names.Rate = kinds.Number
kind_of names.Unit = kinds.Span
kind_of names.Duration = kinds.Span
kind_of names.Pre = kinds.Number
kind_of names.Max = kinds.Number
kind_of names.Iteration = kinds.Span
kind_of names.Journal = kinds.Plain
kind_of names.Entries = kinds.Entries
kind_of names.List = kinds.Flag

-- two names are one
abbrev pub is_name : OptionName → OptionName → Bool
is_name a b = bytes_eq (name_text a) (name_text b)

abbrev pub is_among : OptionName → List OptionName → Bool
is_among name names = list_any (is_name name) names

-- an option as it was given; a flag has the empty value
pub record Given : Type 0 where
  pub name : OptionName
  pub value : List ℕ

-- how an option stands among the words: as two words, as one with `=` between name and value, or as its name
-- alone
pub data Manner : Type 0 where
  Apart : Manner
  Joined : Manner
  Alone : Manner

pub record Written : Type 0 where
  pub option : Given
  pub manner : Manner

abbrev pub words_by : Manner → List ℕ → List ℕ → List (List ℕ)
words_by Apart name value = name ∷ value ∷ []
words_by Joined name value = (name ++ 61 ∷ value) ∷ []
words_by Alone name value = name ∷ []

abbrev pub option_words : Written → List (List ℕ)
option_words w = words_by w.manner (name_text w.option.name) w.option.value

-- the value that is given under a name, if one is
abbrev pub value_of : OptionName → List Given → Option (List ℕ)
value_of name given = option_map (λ (g : Given). g.value) (find (λ (g : Given). is_name name g.name) given)

-- how many times a name is given
abbrev pub times_given : OptionName → List Given → ℕ
times_given name given = count_by (λ (g : Given). is_name name g.name) given

-- a flag stands alone; any other option has a value of its kind
abbrev pub Fits : Manner → ValueKind → List ℕ → Type 0
Fits Apart kind value = IsValueOf kind value
Fits Joined kind value = IsValueOf kind value
Fits Alone kind value = (kind ≡ kinds.Flag) × (value ≡ [])

-- an option of one of these names, as it may be written
pub record IsOptionOf (names : List OptionName) (w : Written) : Type 0 where
  pub known : is_among w.option.name names ≡ true
  pub fits : Fits w.manner (kind_of w.option.name) w.option.value

-- the words are options of these names, one behind the other in any order, and each at most once
pub record AreOptions (names : List OptionName) (words : List (List ℕ)) (given : List Given) : Type 0 where
  pub written : List Written
  pub words_are : words ≡ flat_map option_words written
  pub given_are : given ≡ map (λ (w : Written). w.option) written
  pub each : AllByRecursion (IsOptionOf names) written
  pub once : (name : OptionName) → times_given name given ≤ 1
