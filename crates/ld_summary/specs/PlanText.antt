-- The text of a plan, line by line.
use Rattle.std.specs.Prelude.{Bool, ℕ, List, [], ◌∷◌, codes, decimal, map, zip, if◌then◌else◌}
use Rattle.std.specs.List.{concat, flat_map}
use Rattle.ld_segment.specs.Printed.{sequence_text}
use Rattle.ld_machine.specs.Plan.{Arrival, Part, due_moment}
use Rattle.ld_machine.specs.Scenario.{executor_arrivals}
use Rattle.ld_options.specs.Executors.{executor_name}
use Rattle.ld_options.specs.declared.scenario.Scenario.{Scenario}
use Rattle.ld_line.specs.Line.{line}
use Rattle.ld_plan.specs.PlanView.{PlanView}
use Rattle.ld_plan.specs.Row.{row_of}
use Rattle.ld_plan.specs.declared.row.Row.{Row}

-- the sequence that cuts the test, and the position that the instance plays of it
abbrev pub sequence_line : PlanView → List ℕ
sequence_line seen = line (codes "sequence" ∷ sequence_text seen.sequence ∷ codes "position" ∷ decimal seen.position ∷ [])

-- how many users are made before the run, and how many there may be
abbrev pub users_line : PlanView → List ℕ
users_line seen = line (codes "users" ∷ decimal seen.plan.planned ∷ decimal seen.plan.limit ∷ [])

-- a scenario: its name, its executor, and what the instance owns of it in numbers
abbrev pub scenario_line : Scenario → Row → List ℕ
scenario_line scenario row =
    line
    (codes "scenario"
    ∷ scenario.name
    ∷ executor_name scenario.executor
    ∷ codes "begin"
    ∷ decimal row.begin
    ∷ codes "end"
    ∷ decimal row.end
    ∷ codes "hard"
    ∷ decimal row.hard
    ∷ codes "users"
    ∷ decimal row.users
    ∷ codes "max"
    ∷ decimal row.max
    ∷ codes "items"
    ∷ decimal row.items
    ∷ [])

-- an arrival: its number over the whole test, and the moment at which it is due, from the run's start
abbrev pub moment_line : ℕ → ℕ → List ℕ
moment_line item moment = line (codes "moment" ∷ decimal item ∷ decimal moment ∷ [])

-- the line of an arrival that the instance owns
abbrev pub arrival_line : Part → Arrival → List ℕ
arrival_line part arrival = moment_line arrival.item (due_moment part arrival)

-- one line for each arrival that the instance owns, in their order; an executor without arrivals has none
abbrev pub arrival_lines : Part → List (List ℕ)
arrival_lines part = map (arrival_line part) (executor_arrivals part.executor)

-- the line of a scenario of which the instance owns this part, and behind it those of the owned arrivals, where
-- they are listed
abbrev pub scenario_lines : Bool → Scenario × Part → List (List ℕ)
scenario_lines listed (scenario, part) =
    scenario_line scenario (row_of part) ∷ (if listed then arrival_lines part else [])

-- the lines of all scenarios, in order of their numbers
abbrev pub all_scenario_lines : Bool → PlanView → List (List ℕ)
all_scenario_lines listed seen = flat_map (scenario_lines listed) (zip seen.options.scenarios seen.plan.parts)

-- the text of the plan, with the moments of the owned arrivals where they are listed
abbrev pub plan_text : PlanView → Bool → List ℕ
plan_text seen listed = concat (sequence_line seen ∷ users_line seen ∷ all_scenario_lines listed seen)
