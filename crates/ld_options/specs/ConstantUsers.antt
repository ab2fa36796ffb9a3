-- The fields of constant users.
use Rattle.std.specs.Prelude.{◌≡◌, ℕ, None, Ok, codes}
use Rattle.ld_json.specs.Node.{NodeView}
use Rattle.ld_json.specs.Rules.{Then}
use Rattle.ld_options.specs.Faults.{Refused}
use Rattle.ld_options.specs.Times.{IsTime, RefusesTime, durations}
use Rattle.ld_options.specs.Users.{user_count}
use Rattle.ld_options.specs.declared.fault.OptionsFault.{OptionsFault}

-- the numbers of constant users
pub record AreConstant (node : NodeView) (vus duration : ℕ) : Type 0 where
  pub vus_is : user_count node ≡ Ok vus
  pub duration_is : IsTime durations None node (codes "duration") duration

-- the first of them that is refused
abbrev pub RefusesConstant : NodeView → OptionsFault → Type 0
RefusesConstant node = Then (Refused (user_count node)) (RefusesTime durations None node (codes "duration"))
