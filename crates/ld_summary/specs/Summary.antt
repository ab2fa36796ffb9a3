-- The text of a summary, line by line.
use Rattle.std.specs.Prelude.{ℕ, List, [], ◌∷◌, codes, decimal, map, sum_by}
use Rattle.std.specs.List.{concat, enumerate_from}
use Rattle.ld_base.specs.History.{HistoryView}
use Rattle.ld_line.specs.Line.{line}
use Rattle.ld_plan.specs.PlanView.{PlanView, Whole}
use Rattle.ld_summary.specs.Counts.{acts_of, counts_of}
use Rattle.ld_summary.specs.Planned.{limit_of, owned_in, planned_of}
use Rattle.ld_summary.specs.declared.counts.Counts.{Counts}

-- the users that are planned, and those that there may be, over all instances
abbrev pub users_line : List PlanView → List ℕ
users_line plans = line (codes "users" ∷ decimal (sum_by planned_of plans) ∷ decimal (sum_by limit_of plans) ∷ [])

-- a scenario: its name, how many of its items were planned, and what became of them
abbrev pub scenario_line : List ℕ → ℕ → Counts → List ℕ
scenario_line name planned counts =
    line
    (codes "scenario"
    ∷ name
    ∷ codes "planned"
    ∷ decimal planned
    ∷ codes "started"
    ∷ decimal counts.started
    ∷ codes "done"
    ∷ decimal counts.done
    ∷ codes "interrupted"
    ∷ decimal counts.interrupted
    ∷ codes "dropped"
    ∷ decimal counts.dropped
    ∷ codes "late"
    ∷ decimal counts.late
    ∷ [])

-- the scenarios of the test, of which all plans are
abbrev pub wholes_of : List PlanView → List Whole
wholes_of [] = []
wholes_of (seen ∷ _) = seen.wholes

-- the line of the scenario of a number: its owned items are summed over the plans, and its acts are counted
-- over all histories
abbrev pub line_of : List PlanView → List HistoryView → ℕ × Whole → List ℕ
line_of plans histories (n, whole) =
    scenario_line whole.name (sum_by (owned_in n) plans) (counts_of n (acts_of histories))

-- one line for each scenario, in order of their numbers
abbrev pub scenario_lines : List PlanView → List HistoryView → List (List ℕ)
scenario_lines plans histories = map (line_of plans histories) (enumerate_from 0 (wholes_of plans))

-- the text of the summary
abbrev pub summary_text : List PlanView → List HistoryView → List ℕ
summary_text plans histories = concat (users_line plans ∷ scenario_lines plans histories)
