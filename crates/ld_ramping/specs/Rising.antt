-- Intervals in order.
use Rattle.std.specs.Prelude.{◌<◌, ◌≤◌, ℕ, List, All, AllPairs}
use Rattle.ld_ramping.specs.declared.interval.Interval.{Interval}

-- the intervals rise: none is empty, and each is over when a later one begins
pub record AreRising (intervals : List Interval) : Type 0 where
  pub some : All (λ interval. interval.on < interval.off) intervals
  pub order : AllPairs (λ early late. early.off ≤ late.on) intervals

-- all of them are over at this moment
abbrev pub EndBy : ℕ → List Interval → Type 0
EndBy moment intervals = All (λ interval. interval.off ≤ moment) intervals
