-- The values that words are, by their kinds.
use Rattle.std.specs.Prelude.{◌≡◌, ◌≤◌, ◌==◌, ℕ, Bool, true, false, not, List, [], ◌∷◌, Some}
use Rattle.ld_num.specs.Duration.{HaveLength, IsDuration, Term}
use Rattle.ld_words.specs.Number.{number_of}
use Rattle.ld_words.specs.Weights.{AreWeights}
use Rattle.ld_words.specs.declared.value.ValueKind.{ValueKind}
use Rattle.ld_words.specs.declared.value.ValueKind.TheVariants.{Plain, Number, Count, Span, Entries, Weights, Flag}

-- a value has a byte or more, and doesn't begin with a dash
abbrev pub is_value : List ℕ → Bool
is_value [] = false
is_value (b ∷ _) = not (b == 45)

-- the text is a number from one to another
pub record IsNumberIn (least most : ℕ) (text : List ℕ) (number : ℕ) : Type 0 where
  pub is : number_of text ≡ Some number
  pub enough : least ≤ number
  pub few : number ≤ most

-- the text is a duration of so many nanoseconds, at least one
pub record IsSpan (text : List ℕ) (nanoseconds : ℕ) : Type 0 where
  pub terms : List Term
  pub written : IsDuration text terms
  pub long : HaveLength terms nanoseconds
  pub some : 1 ≤ nanoseconds

-- a number of indices that are looked at
abbrev pub IsCount : List ℕ → ℕ → Type 0
IsCount = IsNumberIn 0 1000000

-- a number of entries that a journal may have
abbrev pub IsEntries : List ℕ → ℕ → Type 0
IsEntries = IsNumberIn 10 1000000

-- the text is a value of this kind; digits and points, with which numbers and durations begin, are no dash.
-- A flag has none
abbrev pub IsValueOf : ValueKind → List ℕ → Type 0
IsValueOf Plain text = is_value text ≡ true
IsValueOf Number text = (n : ℕ) × (number_of text ≡ Some n)
IsValueOf Count text = (n : ℕ) × IsCount text n
IsValueOf Span text = (n : ℕ) × IsSpan text n
IsValueOf Entries text = (n : ℕ) × IsEntries text n
IsValueOf Weights text = (weights : List ℕ) × AreWeights text weights
IsValueOf Flag text = ⊥
