-- Which plans and histories have a summary.
use Rattle.std.specs.Prelude.{◌≡◌, ◌<◌, ◌≤◌, ℕ, List, All, Some, true, length, slice_get, zip}
use Rattle.ld_base.specs.History.{HistoryView}
use Rattle.ld_machine.specs.Plan.{Part}
use Rattle.ld_machine.specs.History.{IsLegal}
use Rattle.ld_machine.specs.Settled.{has_items, IsSettled}
use Rattle.ld_plan.specs.Plan.{IsMade}
use Rattle.ld_plan.specs.PlanView.{PlanView}

-- the plans are of one test: each two have the same scenarios of the whole test
abbrev pub AreOfOneTest : List PlanView → Type 0
AreOfOneTest plans = All (λ a. All (λ b. a.wholes ≡ b.wholes) plans) plans

-- there are 1 to 100 plans, all of one test, and as many histories, each legal under the plan of its place
pub record AreSummed (plans : List PlanView) (histories : List HistoryView) : Type 0 where
  pub some : 0 < length plans
  pub few : length plans ≤ 100
  pub one_test : AreOfOneTest plans
  pub paired : length histories ≡ length plans
  pub legal : All (λ (seen, history). IsLegal seen.plan history.entries) (zip plans histories)

-- the history is legal and settled under the plan, of which scenario n has items
pub record IsSettledOf (n : ℕ) (seen : PlanView) (history : HistoryView) : Type 0 where
  pub made : IsMade seen
  pub legal : IsLegal seen.plan history.entries
  pub settled : IsSettled seen.plan history.entries
  pub part : Part
  pub stands : slice_get seen.plan.parts n ≡ Some part
  pub items : has_items part.executor ≡ true
