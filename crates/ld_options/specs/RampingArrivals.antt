-- The fields of ramping arrivals.
use Rattle.std.specs.Prelude.{◌≡◌, ℕ, List, Some, Ok, codes}
use Rattle.ld_base.specs.declared.stage.Stage.{Stage}
use Rattle.ld_json.specs.Node.{NodeView}
use Rattle.ld_json.specs.Rules.{Then}
use Rattle.ld_options.specs.Faults.{Refused}
use Rattle.ld_options.specs.Fields.{number}
use Rattle.ld_options.specs.Ranges.{greatest_rate}
use Rattle.ld_options.specs.Stages.{AreStagesOf, RefusesStages}
use Rattle.ld_options.specs.Times.{IsTime, RefusesTime, units}
use Rattle.ld_options.specs.Users.{RefusesGreatest, greatest, pre_allocated}
use Rattle.ld_options.specs.declared.fault.OptionsFault.{OptionsFault}
use Rattle.ld_script.specs.declared.range.Range.{Range}

-- the range of the rate at the begin
abbrev pub start_rates : Range
start_rates = record { least = 0; most = greatest_rate }

-- the numbers and the stages of ramping arrivals
pub record AreRampingArrivals (node : NodeView) (start_rate unit : ℕ) (stages : List Stage) (pre max : ℕ) : Type 0 where
  pub start_is : number start_rates (Some 0) node (codes "startRate") ≡ Ok start_rate
  pub unit_is : IsTime units (Some (codes "1s")) node (codes "timeUnit") unit
  pub pre_is : pre_allocated node ≡ Ok pre
  pub max_is : greatest pre node ≡ Ok max
  pub stages_are : AreStagesOf greatest_rate node stages

-- the first of them that is refused
abbrev pub RefusesRampingArrivals : NodeView → OptionsFault → Type 0
RefusesRampingArrivals node =
    Then (Refused (number start_rates (Some 0) node (codes "startRate")))
    (Then (RefusesTime units (Some (codes "1s")) node (codes "timeUnit"))
    (Then (Refused (pre_allocated node))
    (Then (RefusesGreatest node)
    (RefusesStages greatest_rate node))))
