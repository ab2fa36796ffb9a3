-- The fields of shared iterations, and of iterations per user.
use Rattle.std.specs.Prelude.{◌≡◌, ◌*◌, ℕ, List, Some, Result, Ok, Err, codes, nat_le, if◌then◌else◌}
use Rattle.ld_json.specs.Node.{NodeView}
use Rattle.ld_json.specs.Pointer.{member_path}
use Rattle.ld_json.specs.Rules.{Then}
use Rattle.ld_options.specs.Faults.{Refused, and_then}
use Rattle.ld_options.specs.Fields.{number}
use Rattle.ld_options.specs.Ranges.{most_items}
use Rattle.ld_options.specs.Times.{IsTime, RefusesTime, durations}
use Rattle.ld_options.specs.Users.{user_count}
use Rattle.ld_options.specs.declared.fault.OptionsFault.{OptionsFault}
use Rattle.ld_options.specs.declared.fault.OptionsFault.TheVariants as faults
use Rattle.ld_script.specs.declared.range.Range.{Range}

-- the range of a number of iterations
abbrev pub counts : Range
counts = record { least = 1; most = most_items }

-- how many iterations there are; where it isn't given, one
abbrev pub iteration_count : NodeView → Result ℕ OptionsFault
iteration_count node = number counts (Some 1) node (codes "iterations")

-- a number of iterations of each of so many users, few enough for all of them together
abbrev pub few_enough : ℕ → List ℕ → ℕ → Result ℕ OptionsFault
few_enough vus path each = if nat_le (vus * each) most_items then Ok each else Err (faults.Range path)

-- how many iterations each of so many users has
abbrev pub count_of_each : ℕ → NodeView → Result ℕ OptionsFault
count_of_each vus node = and_then (few_enough vus (member_path node.path (codes "iterations"))) (iteration_count node)

-- how long iterations begin at most; where it isn't given, ten minutes
abbrev pub IsMaxDuration : NodeView → ℕ → Type 0
IsMaxDuration node n = IsTime durations (Some (codes "10m")) node (codes "maxDuration") n

abbrev pub RefusesMaxDuration : NodeView → OptionsFault → Type 0
RefusesMaxDuration node = RefusesTime durations (Some (codes "10m")) node (codes "maxDuration")

-- the numbers of shared iterations
pub record AreShared (node : NodeView) (vus iterations max_duration : ℕ) : Type 0 where
  pub vus_is : user_count node ≡ Ok vus
  pub iterations_is : iteration_count node ≡ Ok iterations
  pub max_duration_is : IsMaxDuration node max_duration

-- the numbers of iterations per user
pub record ArePerUser (node : NodeView) (vus iterations max_duration : ℕ) : Type 0 where
  pub vus_is : user_count node ≡ Ok vus
  pub iterations_is : count_of_each vus node ≡ Ok iterations
  pub max_duration_is : IsMaxDuration node max_duration

-- the number of iterations of each user is refused, where the number of users isn't
abbrev pub RefusesEach : NodeView → OptionsFault → Type 0
RefusesEach node fault = (vus : ℕ) × (user_count node ≡ Ok vus) × Refused (count_of_each vus node) fault

-- the first field of shared iterations that is refused
abbrev pub RefusesShared : NodeView → OptionsFault → Type 0
RefusesShared node = Then (Refused (user_count node)) (Then (Refused (iteration_count node)) (RefusesMaxDuration node))

-- the first field of iterations per user that is refused
abbrev pub RefusesPerUser : NodeView → OptionsFault → Type 0
RefusesPerUser node = Then (Refused (user_count node)) (Then (RefusesEach node) (RefusesMaxDuration node))
