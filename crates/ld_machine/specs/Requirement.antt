-- How many users a plan needs: those that its scenarios plan, and those that they may add, at each moment.
use Rattle.std.specs.Prelude.{◌≡◌, ◌≤◌, ◌+◌, ◌-◌, ◌&&◌, ℕ, Bool, List, length, nat_le, nat_lt, count_by, sum_by, if◌then◌else◌}
use Rattle.std.specs.List.{list_any}
use Rattle.ld_machine.specs.Plan.{Interval, Executor, SharedIterations, RampingVus, ArrivalRate, ExternallyControlled, Part, hard_moment, interval_hard_moment, on_moment, owned_slots}

-- the users, or the slots, that an instance owns of a scenario
abbrev pub owned_users : Executor → ℕ
owned_users (SharedIterations users _) = users
owned_users (ArrivalRate pre_allocated _ _) = pre_allocated
owned_users executor = length (owned_slots executor)

-- the most users that an instance may hold of a scenario
abbrev pub most_owned_users : Executor → ℕ
most_owned_users (ArrivalRate _ max_vus _) = max_vus
most_owned_users executor = owned_users executor

-- t is from the scenario's begin up to and without this end
abbrev pub is_before : Part → ℕ → ℕ → Bool
is_before part end t = nat_le part.begin t && nat_lt t end

-- a slot needs a user for an interval from when it goes on until its hard moment
abbrev pub needs_user : Part → ℕ → ℕ → Interval → Bool
needs_user part ramp_grace t interval =
    nat_le (on_moment part interval) t && nat_lt t (interval_hard_moment part ramp_grace interval)

-- the users that a scenario plans at t
abbrev pub executor_need : Executor → Part → ℕ → ℕ
executor_need (RampingVus ramp_grace slots) part t =
    count_by (λ r. list_any (needs_user part ramp_grace t) r.intervals) slots
executor_need (ExternallyControlled _ _ slots) part t = if is_before part part.end t then length slots else 0
executor_need executor part t = if is_before part (hard_moment part) t then owned_users executor else 0

-- the users that a scenario may add at t; but for the arrival kinds they are none
abbrev pub executor_extra : Executor → Part → ℕ → ℕ
executor_extra executor part t =
    if is_before part (hard_moment part) t then most_owned_users executor - owned_users executor else 0

-- the users that all scenarios plan at t
abbrev pub need : List Part → ℕ → ℕ
need parts t = sum_by (λ (part : Part). executor_need part.executor part t) parts

-- the users that all scenarios may add at t
abbrev pub extra : List Part → ℕ → ℕ
extra parts t = sum_by (λ (part : Part). executor_extra part.executor part t) parts

-- the number is reached at some moment, and exceeded at none
pub record IsGreatest (users : ℕ → ℕ) (number : ℕ) : Type 0 where
  pub moment : ℕ
  pub reached : users moment ≡ number
  pub at_most : (t : ℕ) → users t ≤ number

-- so many users are planned, and so many there may be
pub record IsRequirement (parts : List Part) (planned limit : ℕ) : Type 0 where
  pub planned_is : IsGreatest (need parts) planned
  pub limit_is : IsGreatest (λ t. need parts t + extra parts t) limit
