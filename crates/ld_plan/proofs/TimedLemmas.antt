-- The part of a scenario whose numbers are in their ranges is well timed.
use Rattle.std.proofs.Common.{◌<◌, ◌≤◌, ℕ, List, [], arith, subst}
use Rattle.std.specs.Prelude.{Contains}
use Rattle.ld_stripe.specs.Striping.{Striping}
use Rattle.ld_machine.specs.Plan.{Arrival, Interval, due_moment}
use Rattle.ld_machine.specs.Scenario.{executor_arrivals}
use Rattle.ld_machine.specs.WellTimed.{IsWellTimed}
use Rattle.ld_options.specs.Ranges.{IsScenarioInRange}
use Rattle.ld_options.specs.declared.scenario.Scenario.{Scenario}
use Rattle.ld_plan.specs.IsPlanOf.{part_of}
use Rattle.ld_plan.proofs.ExecutorLemmas.{arrivals_in_time, intervals_owned, lasts_within}

begins_by_end : (room : ℕ) (striping items : Striping) (j : ℕ) (s : Scenario) → IsScenarioInRange s →
    (part_of room striping items j s).begin ≤ (part_of room striping items j s).end
begins_by_end room striping items j s range =
    let begin = range.begin in
    let ends = lasts_within s.executor range.executor in
    omega arith

due_in_time : (room : ℕ) (striping items : Striping) (j : ℕ) (s : Scenario) → IsScenarioInRange s →
    (a : Arrival) → Contains (executor_arrivals (part_of room striping items j s).executor) a →
    due_moment (part_of room striping items j s) a < (part_of room striping items j s).end
due_in_time room striping items j s range a has =
    let before = arrivals_in_time s.executor items.owners striping j range.executor a has in
    let ends = lasts_within s.executor range.executor in
    let begin = range.begin in
    omega arith

pub part_timed : (room : ℕ) (striping items : Striping) (j : ℕ) (s : Scenario) → IsScenarioInRange s → IsWellTimed (part_of room striping items j s)
part_timed room striping items j s range =
    let before = begins_by_end room striping items j s range in
    record {
      begins = omega arith;
      ends = omega arith;
      due = due_in_time room striping items j s range;
      off = λ interval has. absurd
          (let none : Contains [] interval = subst (λ (xs : List Interval). Contains xs interval) (intervals_owned s.executor items.owners striping j) has in
          let below : none.0 < 0 = none.1 in
          omega arith);
    }
