-- The fields of a constant rate of arrivals.
use Rattle.std.specs.Prelude.{◌≡◌, ℕ, Some, None, Ok, codes}
use Rattle.ld_json.specs.Node.{NodeView}
use Rattle.ld_json.specs.Rules.{Then}
use Rattle.ld_options.specs.Faults.{Refused}
use Rattle.ld_options.specs.Fields.{number}
use Rattle.ld_options.specs.Ranges.{greatest_rate}
use Rattle.ld_options.specs.Times.{IsTime, RefusesTime, durations, units}
use Rattle.ld_options.specs.Users.{RefusesGreatest, greatest, pre_allocated}
use Rattle.ld_options.specs.declared.fault.OptionsFault.{OptionsFault}
use Rattle.ld_script.specs.declared.range.Range.{Range}

-- the range of its rate
abbrev pub rates : Range
rates = record { least = 1; most = greatest_rate }

-- the numbers of a constant rate of arrivals
pub record AreArrivals (node : NodeView) (rate unit duration pre max : ℕ) : Type 0 where
  pub rate_is : number rates None node (codes "rate") ≡ Ok rate
  pub unit_is : IsTime units (Some (codes "1s")) node (codes "timeUnit") unit
  pub duration_is : IsTime durations None node (codes "duration") duration
  pub pre_is : pre_allocated node ≡ Ok pre
  pub max_is : greatest pre node ≡ Ok max

-- the first of them that is refused
abbrev pub RefusesArrivals : NodeView → OptionsFault → Type 0
RefusesArrivals node =
    Then (Refused (number rates None node (codes "rate")))
    (Then (RefusesTime units (Some (codes "1s")) node (codes "timeUnit"))
    (Then (RefusesTime durations None node (codes "duration"))
    (Then (Refused (pre_allocated node))
    (RefusesGreatest node))))
