-- What the words of a command line ask for.
use Rattle.std.specs.Prelude.{◌≡◌, ℕ, List, [], ◌∷◌, Option, Some, is_some}
use Rattle.std.specs.Option.{option_and_then}
use Rattle.ld_words.specs.Form.{IsRefusal}
use Rattle.ld_words.specs.Forms.{form_of, form_read, AreWordsOf}
use Rattle.ld_words.specs.Number.{number_of}
use Rattle.ld_words.specs.Options.{value_of, Given}
use Rattle.ld_words.specs.Values.{IsSpan}
use Rattle.ld_words.specs.Weights.{AreWeights}
use Rattle.ld_words.specs.declared.fault.WordsFault.{WordsFault}
use Rattle.ld_words.specs.declared.form.FormName.{FormName}
use Rattle.ld_words.specs.declared.form.FormName.TheVariants as forms
use Rattle.ld_words.specs.declared.option.OptionName.{OptionName}
use Rattle.ld_words.specs.declared.option.OptionName.TheVariants as names
use Rattle.ld_words.specs.declared.words.Words.{Words}
use Rattle.ld_words.specs.declared.words.Words.TheVariants.{StripeWeights, StripeSegment, Plan, RehearseTest, RehearseWords, Help}

-- the number that is given under a name, if one is
abbrev pub number_under : OptionName → List Given → Option ℕ
number_under name given = option_and_then number_of (value_of name given)

-- the duration that is given under a name
abbrev pub SpanUnder : OptionName → List Given → ℕ → Type 0
SpanUnder name given nanoseconds = (text : List ℕ) × (value_of name given ≡ Some text) × IsSpan text nanoseconds

-- weights, a position among them, and a number of indices
pub record AreWeightsAsked (places : List (List ℕ)) (weights : List ℕ) (position count : ℕ) : Type 0 where
  pub weights_word : List ℕ
  pub position_word : List ℕ
  pub count_word : List ℕ
  pub places_are : places ≡ weights_word ∷ position_word ∷ count_word ∷ []
  pub weights_are : AreWeights weights_word weights
  pub position_is : number_of position_word ≡ Some position
  pub count_is : number_of count_word ≡ Some count

-- a number of indices, and how they are cut
pub record IsCutAsked (places : List (List ℕ)) (given : List Given) (count : ℕ) (segment sequence : Option (List ℕ)) : Type 0 where
  pub count_word : List ℕ
  pub places_are : places ≡ count_word ∷ []
  pub count_is : number_of count_word ≡ Some count
  pub segment_is : segment ≡ value_of names.Segment given
  pub sequence_is : sequence ≡ value_of names.Sequence given

-- a test, how it is cut, and how many entries a journal of it may have
pub record IsTestAsked (places : List (List ℕ)) (given : List Given) (test : List ℕ) (segment sequence : Option (List ℕ)) (entries : Option ℕ) : Type 0 where
  pub places_are : places ≡ test ∷ []
  pub segment_is : segment ≡ value_of names.Segment given
  pub sequence_is : sequence ≡ value_of names.Sequence given
  pub entries_is : entries ≡ number_under names.Entries given

-- how long each iteration takes, and the journal of a rehearsal
pub record IsPlayAsked (given : List Given) (iteration : ℕ) (journal : List ℕ) : Type 0 where
  pub iteration_is : SpanUnder names.Iteration given iteration
  pub journal_is : value_of names.Journal given ≡ Some journal

-- the rate in each unit of time, for how long, and by how many users
pub record IsPaceAsked (given : List Given) (rate unit duration pre max : ℕ) : Type 0 where
  pub rate_is : number_under names.Rate given ≡ Some rate
  pub unit_is : SpanUnder names.Unit given unit
  pub duration_is : SpanUnder names.Duration given duration
  pub pre_is : number_under names.Pre given ≡ Some pre
  pub max_is : number_under names.Max given ≡ Some max

-- what the values at the places and the options of a form ask for
abbrev pub IsMeant : List (List ℕ) → List Given → Words → Type 0
IsMeant places given (StripeWeights weights position count) = AreWeightsAsked places weights position count
IsMeant places given (StripeSegment count segment sequence) = IsCutAsked places given count segment sequence
IsMeant places given (Plan test segment sequence entries listed) =
    IsTestAsked places given test segment sequence entries × (listed ≡ is_some (value_of names.List given))
IsMeant places given (RehearseTest test iteration journal segment sequence entries) =
    IsTestAsked places given test segment sequence entries × IsPlayAsked given iteration journal
IsMeant places given (RehearseWords rate unit duration pre max iteration journal entries) =
    IsPaceAsked given rate unit duration pre max × IsPlayAsked given iteration journal × (entries ≡ number_under names.Entries given)
IsMeant places given Help = Unit {0}

-- the form of what is asked for
abbrev pub form_asked : Words → FormName
form_asked (StripeWeights _ _ _) = forms.StripeWeights
form_asked (StripeSegment _ _ _) = forms.StripeSegment
form_asked (Plan _ _ _ _ _) = forms.Plan
form_asked (RehearseTest _ _ _ _ _ _) = forms.RehearseTest
form_asked (RehearseWords _ _ _ _ _ _ _ _) = forms.RehearseWords
form_asked Help = forms.Help

-- the words ask for this: they are words of the form that they are read by, and mean this
pub record Asks (words : List (List ℕ)) (request : Words) : Type 0 where
  pub form_is : form_asked request ≡ form_read words
  pub places : List (List ℕ)
  pub given : List Given
  pub words_are : AreWordsOf (form_read words) words places given
  pub meant : IsMeant places given request

-- the words are refused with this fault
abbrev pub IsRefused : List (List ℕ) → WordsFault → Type 0
IsRefused words fault = IsRefusal (form_of (form_read words)) words fault
