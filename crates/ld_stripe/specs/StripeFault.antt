-- When weights are refused, in the order in which it is looked at.
use Rattle.std.specs.Prelude.{◌≡◌, ◌<◌, ◌≤◌, ◌-◌, ◌^◌, ◌==◌, ℕ, List, [], Option, Some, None, length, sum, min, position}
use Rattle.ld_stripe.specs.Striping.{IsLowestTerms}
use Rattle.ld_stripe.specs.declared.fault.StripeFault.{StripeFault}
use Rattle.ld_stripe.specs.declared.fault.StripeFault.TheVariants.{NoWeights, TooMany, ZeroWeight, PeriodTooLarge, Memory}

-- the greatest period that a striping may have
abbrev pub greatest_period : ℕ
greatest_period = 100000

-- the greatest number of weights
abbrev pub most_weights : ℕ
most_weights = 100

-- there is a weight, and there aren't too many
pub record AreCounted (weights : List ℕ) : Type 0 where
  pub some : 0 < length weights
  pub few : length weights ≤ most_weights

-- the first weight that is zero
abbrev pub first_zero : List ℕ → Option ℕ
first_zero weights = position (λ w. w == 0) weights

-- the weights are refused with this fault; want of memory is no refusal of theirs
abbrev pub IsRefusal : List ℕ → StripeFault → Type 0
IsRefusal weights NoWeights = weights ≡ []
IsRefusal weights TooMany = most_weights < length weights
IsRefusal weights (ZeroWeight p) = AreCounted weights × (first_zero weights ≡ Some p)
IsRefusal weights (PeriodTooLarge n) =
    AreCounted weights
    × (first_zero weights ≡ None)
    × ((reduced : List ℕ)
    × IsLowestTerms weights reduced
    × (greatest_period < sum reduced)
    × (n ≡ min (sum reduced) (2 ^ 64 - 1)))
IsRefusal weights Memory = ⊥
