-- What is kept of a scenario at an arrival rate.
use Rattle.std.specs.Prelude.{ℕ, List}
use Rattle.ld_course.specs.declared.course.Course.{Course}

-- the scenario's course, how many users it takes at its begin and how many it may hold, its open arrivals in order, each
-- with its moment, the numbers of the idle ones of the users that it holds, rising, and how many it holds
pub record RatesView : Type 0 where
  pub course : Course
  pub pre : ℕ
  pub max : ℕ
  pub waiting : List (ℕ × ℕ)
  pub idle : List ℕ
  pub held : ℕ
