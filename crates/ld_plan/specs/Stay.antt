-- Stays of users: so many from a moment up to and without another.
use Rattle.std.specs.Prelude.{◌≡◌, ◌<◌, ◌≤◌, ◌+◌, ◌^◌, ◌&&◌, ℕ, All, Bool, List, nat_le, nat_lt, sum_by, if◌then◌else◌}
use Rattle.ld_machine.specs.Plan.{Executor, Part, hard_moment}
use Rattle.ld_machine.specs.Requirement.{executor_need, extra, is_before, most_owned_users, need, owned_users}
use Rattle.ld_options.specs.Ranges.{most_users}
use Rattle.ld_plan.specs.declared.stay.Stay.{Stay}

-- a stay holds at t
abbrev pub holds : ℕ → Stay → Bool
holds t stay = nat_le stay.from t && nat_lt t stay.until

-- the users of the stays that hold at t, where each stay has so many
abbrev pub held_at : (Stay → ℕ) → List Stay → ℕ → ℕ
held_at amount stays t = sum_by (λ (stay : Stay). if holds t stay then amount stay else 0) stays

-- the users that are planned at t, and those that there may be
abbrev pub planned_at : List Stay → ℕ → ℕ
planned_at stays t = held_at (λ (stay : Stay). stay.planned) stays t

abbrev pub limit_at : List Stay → ℕ → ℕ
limit_at stays t = held_at (λ (stay : Stay). stay.limit) stays t

-- each stay holds at some moment
abbrev pub HoldSometime : List Stay → Type 0
HoldSometime stays = All (λ (stay : Stay). stay.from < stay.until) stays

-- the users of all stays together fit their numbers
pub record AreCounted (stays : List Stay) : Type 0 where
  pub planned : sum_by (λ (stay : Stay). stay.planned) stays < 2 ^ 32
  pub limit : sum_by (λ (stay : Stay). stay.limit) stays < 2 ^ 32

-- at each moment they are the users that the parts plan, and those that these may add
pub record AreStaysOf (parts : List Part) (stays : List Stay) : Type 0 where
  pub planned : (t : ℕ) → planned_at stays t ≡ need parts t
  pub limit : (t : ℕ) → limit_at stays t ≡ need parts t + extra parts t

-- a part has few users
pub record HasFewUsers (part : Part) : Type 0 where
  pub planned : owned_users part.executor ≤ most_users
  pub limit : most_owned_users part.executor ≤ most_users

-- an executor plans its users from its scenario's begin up to the hard moment
abbrev pub IsSteady : Executor → Type 0
IsSteady executor = (part : Part) (t : ℕ) →
    executor_need executor part t ≡ (if is_before part (hard_moment part) t then owned_users executor else 0)
