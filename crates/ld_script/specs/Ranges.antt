-- The ranges of numbers, and the longest span of time.
use Rattle.std.specs.Prelude.{◌≤◌, ℕ}

-- a number is neither below the one nor above the other
pub record IsWithin (least most n : ℕ) : Type 0 where
  pub at_least : least ≤ n
  pub at_most : n ≤ most

-- the longest span of time, 30 days, in nanoseconds
abbrev pub longest : ℕ
longest = 2592000000000000
