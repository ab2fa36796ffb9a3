-- What every request of words keeps to.
use Rattle.std.specs.Prelude.{◌≤◌, ℕ, List, Option}
use Rattle.std.specs.Str.{IsUtf8}
use Rattle.ld_words.specs.declared.words.Words as requests
use Rattle.ld_words.specs.declared.words.Words.TheVariants.{StripeWeights, StripeSegment, Plan, RehearseTest, RehearseWords, Help}
use Rattle.ld_answer.specs.TestFile.{entry_limit}

-- a journal has room for 10 to 1,000,000 entries
pub record IsLimited (entries : Option ℕ) : Type 0 where
  pub least : 10 ≤ entry_limit entries
  pub most : entry_limit entries ≤ 1000000

-- an iteration lasts for some time, and the journal's name is UTF-8
pub record IsPlayable (iteration : ℕ) (journal : List ℕ) : Type 0 where
  pub lasts : 1 ≤ iteration
  pub named : IsUtf8 journal

-- what holds of a request that words ask for
abbrev pub IsAsked : requests.Words → Type 0
IsAsked (StripeWeights weights position count) = Unit {0}
IsAsked (StripeSegment count segment sequence) = Unit {0}
IsAsked (Plan test segment sequence entries listed) = IsUtf8 test × IsLimited entries
IsAsked (RehearseTest test iteration journal segment sequence entries) =
    IsUtf8 test × IsLimited entries × IsPlayable iteration journal
IsAsked (RehearseWords rate unit duration pre max iteration journal entries) = IsLimited entries × IsPlayable iteration journal
IsAsked Help = Unit {0}
