-- what a tally holds, and when it fits a script
use Rattle.std.specs.Prelude.{◌≡◌, ℕ, ◌<◌, ◌≤◌, ◌^◌, List, length, All, IsTrue, IsSomeAnd, false, slice_get}
use Rattle.ld_base.specs.declared.metric.NameSpec.{NameSpec}
use Rattle.ld_base.specs.declared.sample.Sample.{Sample}

-- a tally as contracts see it: its samples, and how many it has room for
pub record TallyView : Type 0 where
  pub samples : List Sample
  pub room : ℕ

-- a sample has the added amount in `sent`, and zeros elsewhere
pub record IsAddition (sample : Sample) : Type 0 where
  pub status : sample.status ≡ 0
  pub span : sample.span ≡ 0
  pub received : sample.received ≡ 0
  pub failed : sample.failed ≡ false
  pub check_bits : sample.check_bits ≡ 0

-- each check bit belongs to a check of the name, and a counter's sample is an addition
pub record IsSampleOf (name : NameSpec) (sample : Sample) : Type 0 where
  pub checks : sample.check_bits < 2 ^ name.checks
  pub counter : IsTrue name.counter → IsAddition sample

-- a sample's name is one of these names, and the sample is one of that name
abbrev pub HasName : List NameSpec → Sample → Type 0
HasName names sample = IsSomeAnd (slice_get names sample.name) (λ name. IsSampleOf name sample)

-- a tally fits under a test's names and a script's sample room
pub record TallyFits (names : List NameSpec) (room : ℕ) (tally : TallyView) : Type 0 where
  pub within : length tally.samples ≤ room
  pub named : All (HasName names) tally.samples
