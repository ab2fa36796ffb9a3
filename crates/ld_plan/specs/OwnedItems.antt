-- What a position owns of a scenario's users and items.
use Rattle.std.specs.Prelude.{◌≡◌, ℕ, Contains, List, None, Option, Some}
use Rattle.ld_stripe.specs.Striping.{Striping, IsStripingOf, share_at, shares_at}
use Rattle.ld_arrival.specs.Timetable.{Timetable, Constant, planned_count}
use Rattle.ld_base.specs.declared.stage.Stage.{Stage}
use Rattle.ld_machine.specs.Plan as machine
use Rattle.ld_machine.specs.Plan.{Arrival}
use Rattle.ld_machine.specs.Scenario.{executor_arrivals}
use Rattle.ld_options.specs.declared.executor.Executor.{Executor}
use Rattle.ld_options.specs.declared.executor.Executor.TheVariants.{ConstantArrivals, RampingArrivals}
use Rattle.ld_plan.specs.Executor.{arrival_rate, max_of, owned_executor, timetable_of, whole_count}
use Rattle.ld_plan.specs.declared.owned_arrivals.ConstantRate.{ConstantRate}
use Rattle.ld_plan.specs.declared.users.Users.{Users}

-- what is owned of a scenario, as the machine has it; and of the whole test how many items there are, and when its
-- arrivals are due, where it has arrivals
pub record OwnedView : Type 0 where
  pub executor : machine.Executor
  pub whole_items : ℕ
  pub timetable : Option Timetable

-- what is owned of items that are not arrivals, and how many of them the whole test has
pub record ItemsView : Type 0 where
  pub executor : machine.Executor
  pub whole_items : ℕ

abbrev pub view_of_items : ItemsView → OwnedView
view_of_items owned = record { executor = owned.executor; whole_items = owned.whole_items; timetable = None }

-- what is owned of arrivals, and when those of the whole test are due
pub record ArrivalsView : Type 0 where
  pub executor : machine.Executor
  pub timetable : Timetable

abbrev pub view_of_arrivals : ArrivalsView → OwnedView
view_of_arrivals owned =
    record { executor = owned.executor; whole_items = planned_count owned.timetable; timetable = Some owned.timetable }

-- the arrivals of this item that an executor has are due at this moment, counted from the scenario's begin
pub record AreDueAt (executor : machine.Executor) (item moment : ℕ) : Type 0 where
  pub due : (a : Arrival) → Contains (executor_arrivals executor) a → a.item ≡ item → moment ≡ a.moment

-- arrivals at a constant rate: when they are due, and the executor that says so with these numbers of users
abbrev pub timetable_at : ConstantRate → Timetable
timetable_at r = Constant r.rate r.unit r.duration

abbrev pub constant_arrivals : ConstantRate → Users → Executor
constant_arrivals r users = ConstantArrivals r.rate r.unit r.duration users.planned users.limit

-- the executor that says arrivals at a ramping rate, with these numbers of users
abbrev pub ramping_arrivals : (start_rate unit : ℕ) → List Stage → Users → Executor
ramping_arrivals start_rate unit stages users = RampingArrivals start_rate unit stages users.planned users.limit

-- what position j owns of arrivals, where these and the users are striped so
abbrev pub arrivals_of : Striping → Striping → ℕ → Users → Timetable → ArrivalsView
arrivals_of striping items j users timetable =
    record {
      executor =
          arrival_rate (share_at striping.owners j users.planned) (share_at striping.owners j users.limit) timetable items.owners j;
      timetable = timetable;
    }

-- this is what position j owns of them: they are striped by the shares that the positions have of the greatest number of
-- users
pub record AreArrivalsOf (striping : Striping) (j : ℕ) (users : Users) (timetable : Timetable) (owned : ArrivalsView) : Type 0 where
  pub items : Striping
  pub rescaled : IsStripingOf (shares_at striping users.limit) items
  pub owned_is : owned ≡ arrivals_of striping items j users timetable

-- what position j owns of an executor, where its items and its users are striped so
abbrev pub owned_of : Striping → Striping → ℕ → Executor → OwnedView
owned_of striping items j executor =
    record {
      executor = owned_executor executor items.owners striping j;
      whole_items = whole_count executor;
      timetable = timetable_of executor;
    }

-- this is what position j owns of it: the items are striped by the shares that the positions have of its greatest number
-- of users
pub record IsOwnedOf (striping : Striping) (j : ℕ) (executor : Executor) (owned : OwnedView) : Type 0 where
  pub items : Striping
  pub rescaled : IsStripingOf (shares_at striping (max_of executor)) items
  pub owned_is : owned ≡ owned_of striping items j executor
