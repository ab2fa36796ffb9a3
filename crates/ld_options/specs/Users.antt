-- The numbers of users of a scenario.
use Rattle.std.specs.Prelude.{◌≡◌, ℕ, List, Some, None, Result, Ok, Err, codes, nat_lt, if◌then◌else◌}
use Rattle.ld_json.specs.Node.{NodeView, as_whole}
use Rattle.ld_json.specs.Pointer.{member_path}
use Rattle.ld_options.specs.Faults.{Refused, and_then}
use Rattle.ld_options.specs.Fields.{given, number, ranged}
use Rattle.ld_options.specs.Ranges.{most_users}
use Rattle.ld_options.specs.declared.fault.OptionsFault.{OptionsFault}
use Rattle.ld_options.specs.declared.fault.OptionsFault.TheVariants as faults
use Rattle.ld_script.specs.declared.range.Range.{Range}

-- the range of the users that are made before a scenario begins, and that of the greatest number of users
abbrev pub planned_users : Range
planned_users = record { least = 0; most = most_users }

abbrev pub users : Range
users = record { least = 1; most = most_users }

-- how many users there are; where it isn't given, one
abbrev pub user_count : NodeView → Result ℕ OptionsFault
user_count node = number users (Some 1) node (codes "vus")

-- how many users are made before the scenario begins
abbrev pub pre_allocated : NodeView → Result ℕ OptionsFault
pre_allocated node = number planned_users None node (codes "preAllocatedVUs")

-- a greatest number of users that is below those made before is refused for it, and else for its range
abbrev pub not_below : ℕ → List ℕ → ℕ → Result ℕ OptionsFault
not_below pre path max = if nat_lt max pre then Err (faults.MaxBelowPre path) else ranged users path max

-- the greatest number of users; where it isn't given, those that are made before
abbrev pub greatest : ℕ → NodeView → Result ℕ OptionsFault
greatest pre node = and_then (not_below pre (member_path node.path (codes "maxVUs"))) (given as_whole (Some pre) node (codes "maxVUs"))

-- the greatest number of users is refused, where the number of those made before isn't
abbrev pub RefusesGreatest : NodeView → OptionsFault → Type 0
RefusesGreatest node fault = (pre : ℕ) × (pre_allocated node ≡ Ok pre) × Refused (greatest pre node) fault
