-- The users that a position needs of the scenarios of a test at a moment.
use Rattle.std.specs.Prelude.{◌&&◌, ℕ, Bool, List, nat_le, nat_lt, sum_by, if◌then◌else◌}
use Rattle.ld_stripe.specs.Striping.{share_at}
use Rattle.ld_machine.specs.Moment.{moment_after}
use Rattle.ld_options.specs.declared.scenario.Scenario.{Scenario}
use Rattle.ld_plan.specs.Executor.{length_of, max_of, pre_of}

-- a scenario is on: from its begin up to and without its hard moment
abbrev pub is_on : ℕ → Scenario → Bool
is_on t s =
    nat_le s.begin t && nat_lt t (moment_after (moment_after s.begin (length_of s.executor)) s.grace)

-- the users that position j, of those with these owners, plans of a scenario, and those that it may have
abbrev pub planned_on : List ℕ → ℕ → ℕ → Scenario → ℕ
planned_on owners j t s = if is_on t s then share_at owners j (pre_of s.executor) else 0

abbrev pub most_on : List ℕ → ℕ → ℕ → Scenario → ℕ
most_on owners j t s = if is_on t s then share_at owners j (max_of s.executor) else 0

-- those of all scenarios
abbrev pub planned_at : List ℕ → ℕ → List Scenario → ℕ → ℕ
planned_at owners j scenarios t = sum_by (planned_on owners j t) scenarios

abbrev pub most_at : List ℕ → ℕ → List Scenario → ℕ → ℕ
most_at owners j scenarios t = sum_by (most_on owners j t) scenarios
