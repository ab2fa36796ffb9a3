-- The options that the test by options stands for, and which of its numbers are refused.
use Rattle.std.specs.Prelude.{◌≡◌, ◌<◌, ◌++◌, ℕ, List, [], ◌∷◌, codes}
use Rattle.ld_json.specs.Rules.{Then}
use Rattle.ld_options.specs.ConstantArrivals.{rates}
use Rattle.ld_options.specs.Ranges.{IsWithin}
use Rattle.ld_options.specs.Times.{durations, units}
use Rattle.ld_options.specs.Users.{planned_users, users}
use Rattle.ld_options.specs.declared.executor.Executor.TheVariants.{ConstantArrivals}
use Rattle.ld_options.specs.declared.fault.OptionsFault.{OptionsFault}
use Rattle.ld_options.specs.declared.fault.OptionsFault.TheVariants as faults
use Rattle.ld_options.specs.declared.options.Options.{Options}
use Rattle.ld_script.specs.declared.range.Range.{Range}
use Rattle.ld_options.specs.declared.scenario.Scenario.{Scenario}

-- the scenario `main` at a constant rate of arrivals, from the beginning on, with 30 seconds of grace, whose users
-- play the first script
abbrev pub rate_scenario : ℕ → ℕ → ℕ → ℕ → ℕ → Scenario
rate_scenario rate unit duration pre max = record {
  name = codes "main";
  begin = 0;
  grace = 30000000000;
  script = 0;
  executor = ConstantArrivals rate unit duration pre max;
}

-- the options are this scenario and one script, `default`
pub record AreRateOptions (rate unit duration pre max : ℕ) (options : Options) : Type 0 where
  pub scenarios : options.scenarios ≡ rate_scenario rate unit duration pre max ∷ []
  pub scripts : options.scripts.names ≡ codes "default" ∷ []

-- where a field of the scenario stands
abbrev pub field_path : List ℕ → List ℕ
field_path name = codes "/options/scenarios/main/" ++ name

-- a number out of its range is refused at its field
abbrev pub IsOut : Range → ℕ → List ℕ → OptionsFault → Type 0
IsOut range n name fault = (IsWithin range.least range.most n → ⊥) × (fault ≡ faults.Range (field_path name))

-- a greatest number of users below those made before
abbrev pub IsBelow : ℕ → ℕ → OptionsFault → Type 0
IsBelow pre max fault = (max < pre) × (fault ≡ faults.MaxBelowPre (field_path (codes "maxVUs")))

-- the first of the numbers that is refused
abbrev pub RefusesRates : ℕ → ℕ → ℕ → ℕ → ℕ → OptionsFault → Type 0
RefusesRates rate unit duration pre max =
    Then (IsOut rates rate (codes "rate"))
    (Then (IsOut units unit (codes "timeUnit"))
    (Then (IsOut durations duration (codes "duration"))
    (Then (IsOut planned_users pre (codes "preAllocatedVUs"))
    (Then (IsBelow pre max) (IsOut users max (codes "maxVUs"))))))
